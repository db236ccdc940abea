-- What is found of octets that may begin with an object.
use Rattle.std.specs.Prelude.{◌≡◌, ◌⊎◌, ℕ, List, [], ◌∷◌, Result, Ok, Err}
use Rattle.rpki_der.specs.declared.mode.Mode.{Mode}
use Rattle.rpki_faults.specs.Checks.{AnswersFirstFault, ◌unless◌}
use Rattle.rpki_faults.specs.declared.validation.ValidationError.{ValidationError}
use Rattle.rpki_faults.specs.declared.validation.ValidationError.TheVariants.{Verification}
use Rattle.rpki_faults.specs.declared.verification.VerificationError.TheVariants.{Caller}
use Rattle.rpki_certs.specs.Cert.{KeptCertificate}
use Rattle.rpki_certs.specs.Validate.{Validated}
use Rattle.rpki_signed.specs.declared.check.CheckError.{CheckError}
use Rattle.rpki_sigobj.specs.Object.{mode_of}
use Rattle.rpki_sigobj.specs.Signed.Kind.{ObjectKind}
use Rattle.rpki_validation.specs.Object.{ChecksAsking, IsGoodOn}
use Rattle.rpki_validation.specs.Revoked.{IsUnrevoked}
use Rattle.rpki_validation.specs.declared.grounds.Grounds.{Grounds}
use Rattle.rpki_check.specs.Grounds.{AreGroundsOf, HasNoGrounds, manner_in}
use Rattle.rpki_check.specs.Numbers.{no_memory, status_of}
use Rattle.rpki_check.specs.declared.question.Question.{Question}
use Rattle.rpki_check.specs.declared.refusal.Refusal.{Refusal}
use Rattle.rpki_check.specs.declared.refusal.Refusal.TheVariants.{Check, Memory}

-- What the lists of these grounds say of a certificate of their issuer: a yes exactly if none revokes
-- it, and else that the caller refuses it.
abbrev pub ListsSay : Grounds → KeptCertificate → Result (Unit {0}) ValidationError → Type 0
ListsSay g k said = AnswersFirstFault ((Verification Caller
    unless IsUnrevoked g.lists.items g.issuer.cert.certificate k.certificate) ∷ []) said

-- What a check of octets answers on these grounds, where their lists are asked about the certificate
-- (`ChecksAsking`).
abbrev pub ChecksByLists : {X : Type 0} → ObjectKind X → (List ℕ → X → Type 0) → Mode → Grounds
    → List ℕ → Result (Validated × X) CheckError → Type 0
ChecksByLists kind form mode g octets result =
    ChecksAsking kind form mode g (ListsSay g) octets result

-- what is found on these grounds: the content of a good object, or why there is none, unless memory
-- ran out
abbrev pub IsFoundOn : {X : Type 0} → ObjectKind X → (List ℕ → X → Type 0) → Mode → Grounds → List ℕ
    → Result X Refusal → Type 0
IsFoundOn kind form mode g octets (Ok x) =
    (cert : Validated) × ChecksByLists kind form mode g octets (Ok (cert, x))
IsFoundOn kind form mode g octets (Err (Check fault)) = ChecksByLists kind form mode g octets (Err fault)
IsFoundOn kind form mode g octets (Err Memory) = Unit {0}
IsFoundOn kind form mode g octets (Err other) = ⊥

-- A question has grounds, and this is found on them.
pub record IsFoundIn {X : Type 0} (kind : ObjectKind X) (form : List ℕ → X → Type 0) (q : Question)
    (octets : List ℕ) (result : Result X Refusal) : Type 0 where
  pub grounds : Grounds
  pub are : AreGroundsOf q grounds
  pub found : IsFoundOn kind form (mode_of (manner_in q).strict) grounds octets result

-- what is found in answer to a question: that it has no grounds, or what is found on them
abbrev pub IsFound : {X : Type 0} → ObjectKind X → (List ℕ → X → Type 0) → Question → List ℕ
    → Result X Refusal → Type 0
IsFound kind form q octets result =
    ((refusal : Refusal) × HasNoGrounds q refusal × (result ≡ Err refusal))
    ⊎ IsFoundIn kind form q octets result

-- ---- the headline

-- The octets begin with a good object: the certificates make an issuer at the moment of the
-- question, under which every check of the object holds, and no list revokes a certificate of the
-- chain or that of the object.
pub record IsGoodFor {X : Type 0} (kind : ObjectKind X) (form : List ℕ → X → Type 0) (q : Question)
    (octets : List ℕ) : Type 0 where
  pub grounds : Grounds
  pub are : AreGroundsOf q grounds
  pub good : IsGoodOn kind form (mode_of (manner_in q).strict) grounds octets

-- The status of what is found of this kind is 0 exactly where the octets begin with a good object:
-- where it is neither 0 nor 1, for want of memory, they begin with none.
pub record IsDecided {X : Type 0} (kind : ObjectKind X) (form : List ℕ → X → Type 0) : Type 0 where
  pub yes : (q : Question) (octets : List ℕ) (found : Result X Refusal)
      → IsFound kind form q octets found → status_of found ≡ 0 → IsGoodFor kind form q octets
  pub no : (q : Question) (octets : List ℕ) (found : Result X Refusal)
      → IsFound kind form q octets found → ¬ (status_of found ≡ 0)
      → ¬ (status_of found ≡ no_memory) → ¬ IsGoodFor kind form q octets
