-- What the statuses of calls say of octets.
use Rattle.std.specs.Prelude.{◌≡◌, ℕ, List, Result}
use Rattle.std.specs.List.{AllZip}
use Rattle.sha2.specs.Sha256.{sha256}
use Rattle.rpki_der.specs.declared.mode.Mode.TheVariants.{Der}
use Rattle.rpki_files.specs.Manifest.{ManifestForm}
use Rattle.rpki_files.specs.Manifest.Checks.{manifest_kind}
use Rattle.rpki_multi.specs.Attestation.{KeptWhole}
use Rattle.rpki_rsa.specs.Signature.{is_rsa_signature}
use Rattle.rpki_rta.specs.Granted.{IsDistinct}
use Rattle.rpki_sigobj.specs.Object.{mode_of}
use Rattle.rpki_sigobj.specs.Signed.Kind.{ObjectKind}
use Rattle.rpki_validation.specs.Attestation.{IsGoodRtaOn}
use Rattle.rpki_validation.specs.declared.grounds.Grounds.{Grounds}
use Rattle.rpki_check.specs.Attestation.{IsAttestationFound}
use Rattle.rpki_check.specs.Calls.{IsObjectCall}
use Rattle.rpki_check.specs.Edition.{IsEditionCall}
use Rattle.rpki_check.specs.Files.{IsFilesCall, Named}
use Rattle.rpki_check.specs.Grounds.{AreGroundsOf, manner_in}
use Rattle.rpki_check.specs.Kinds.{AsksFor, OfAsked}
use Rattle.rpki_check.specs.Many.{IsManyCall}
use Rattle.rpki_check.specs.Numbers.{no_memory, status_of}
use Rattle.rpki_check.specs.Object.{IsGoodFor}
use Rattle.rpki_check.specs.Room.{IsInRoom}
use Rattle.rpki_check.specs.Rows.{IsRowsCall}
use Rattle.rpki_check.specs.declared.edition.Edition.{Edition}
use Rattle.rpki_check.specs.declared.files.Entry.{Entry}
use Rattle.rpki_check.specs.declared.kinds.Asked.{Asked}
use Rattle.rpki_check.specs.declared.many.Object.{Object}
use Rattle.rpki_check.specs.declared.question.Question.{Question}
use Rattle.rpki_check.specs.declared.refusal.Refusal.{Refusal}

-- A status tells of octets: it is 0 only if they are good, and if it is neither 0 nor 1, for want of
-- memory, they are not surely good.
pub record Tells (status : ℕ) (Good Surely : Type 0) : Type 0 where
  pub yes : status ≡ 0 → Good
  pub no : ¬ (status ≡ 0) → ¬ (status ≡ no_memory) → ¬ Surely

-- A status is 0 exactly where the octets begin with a good object of this kind, unless memory ran out.
abbrev pub TellsGood : {X : Type 0} → ObjectKind X → (List ℕ → X → Type 0) → Question → List ℕ → ℕ
    → Type 0
TellsGood kind form q octets status =
    Tells status (IsGoodFor kind form q octets) (IsGoodFor kind form q octets)

-- ---- attestations

-- The octets begin with an attestation that is granted: the certificates of the question make an
-- issuer at its moment, under which it is granted as under the one CA that is supplied, and no list
-- revokes a certificate of it that is of this issuer (`IsGoodRtaOn`).
pub record IsGrantedFor (q : Question) (octets : List ℕ) : Type 0 where
  pub grounds : Grounds
  pub are : AreGroundsOf q grounds
  pub good : IsGoodRtaOn grounds octets

-- The octets begin with an attestation that is granted, and the identifiers of its certificates are
-- distinct.
pub record IsSurelyGranted (q : Question) (octets : List ℕ) : Type 0 where
  pub granted : IsGrantedFor q octets
  pub distinct : IsDistinct sha256 is_rsa_signature granted.good.granted.object

-- A status is 0 only where the octets begin with an attestation that is granted, and exactly there,
-- unless memory ran out, if the identifiers of its certificates are distinct.
abbrev pub TellsGranted : Question → List ℕ → ℕ → Type 0
TellsGranted q octets status = Tells status (IsGrantedFor q octets) (IsSurelyGranted q octets)

-- The status of what is found of attestations tells.
abbrev pub IsGrantDecided : Type 0
IsGrantDecided = (q : Question) (octets : List ℕ) (found : Result KeptWhole Refusal)
    → IsAttestationFound q octets found → TellsGranted q octets (status_of found)

-- ---- calls

-- The octets begin with something good of what a number asks for, where A is so of attestations.
abbrev pub IsGoodAsked : Question → ℕ → List ℕ → Type 0 → Type 0
IsGoodAsked q number octets A = (a : Asked)
    × AsksFor (mode_of (manner_in q).strict) number octets a
    × OfAsked (manner_in q) a (λ X asked form lines. IsGoodFor asked form q octets) A

-- A status is 0 exactly where the octets begin with what a number asks for and that is good, as it is
-- said of objects and attestations.
abbrev pub TellsAsked : Question → ℕ → List ℕ → ℕ → Type 0
TellsAsked q number octets status =
    Tells status (IsGoodAsked q number octets (IsGrantedFor q octets))
    (IsGoodAsked q number octets (IsSurelyGranted q octets))

-- The status of a call about an object tells.
abbrev pub ObjectTells : Type 0
ObjectTells = (q : Question) (number : ℕ) (octets old new : List ℕ) (len status : ℕ)
    → IsObjectCall q number octets old new len status → TellsAsked q number octets status

-- What a call about many objects leaves with 0 are their statuses, each of which tells.
abbrev pub ObjectsTell : Type 0
ObjectsTell = (q : Question) (objects : List Object) (old new : List ℕ) (count : ℕ)
    → IsManyCall q objects old new count 0
    → (statuses : List ℕ) × IsInRoom statuses old new count
    × AllZip (λ o status. TellsAsked q o.kind o.octets.now status) objects statuses

-- If a call about many objects answers 0, it leaves their statuses, each of which tells.
abbrev pub TellsEach : Question → List Object → List ℕ → List ℕ → ℕ → ℕ → Type 0
TellsEach q objects old new count answer =
    answer ≡ 0 → (statuses : List ℕ) × IsInRoom statuses old new count
    × AllZip (λ o status. TellsAsked q o.kind o.octets.now status) objects statuses

-- The status of a call for rows tells.
abbrev pub RowsTell : {X R : Type 0} → ObjectKind X → (Question → List ℕ → X → Type 0)
    → (X → List R) → Type 0
RowsTell {X} {R} kind form rows =
    (q : Question) (octets : List ℕ) (old new : List R) (count status : ℕ)
    → IsRowsCall kind (form q) rows q octets old new count status
    → TellsGood kind (form q) q octets status

-- The status of a call for files tells.
abbrev pub FilesTell : {X : Type 0} → ObjectKind X → (Question → List ℕ → X → Type 0)
    → (X → List Named) → Type 0
FilesTell kind form files =
    (q : Question) (octets : List ℕ) (old new : List Entry) (count : ℕ) (before after : List ℕ)
    (len status : ℕ) → IsFilesCall kind (form q) files q octets old new count before after len status
    → TellsGood kind (form q) q octets status

-- The status of a call for an edition tells.
abbrev pub EditionTells : Type 0
EditionTells = (q : Question) (octets : List ℕ) (before after : Edition) (old new : List ℕ)
    (len status : ℕ) → IsEditionCall q octets before after old new len status
    → TellsGood manifest_kind (ManifestForm (manner_in q).names Der) q octets status
