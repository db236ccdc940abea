-- What is found of octets that may begin with an object.
use Rattle.std.specs.Prelude.{◌≡◌, ◌⊎◌, ℕ, List, false, Result, Ok, Err}
use Rattle.sha2.specs.Sha256.{sha256}
use Rattle.rpki_der.specs.declared.mode.Mode.{Mode}
use Rattle.rpki_faults.specs.declared.validation.ValidationError.{ValidationError}
use Rattle.rpki_certs.specs.Cert.{KeptCertificate}
use Rattle.rpki_certs.specs.Validate.{Validated}
use Rattle.rpki_rsa.specs.Signature.{is_rsa_signature}
use Rattle.rpki_signed.specs.Check.{Checks}
use Rattle.rpki_signed.specs.Exact.{IsExact}
use Rattle.rpki_signed.specs.Headline.{BeginsWithGood}
use Rattle.rpki_signed.specs.declared.check.CheckError.{CheckError}
use Rattle.rpki_sigobj.specs.Object.{mode_of}
use Rattle.rpki_sigobj.specs.Signed.Kind.{ObjectKind}
use Rattle.rpki_validation.specs.Grounds.{AreGroundsOf, HasNoGrounds}
use Rattle.rpki_validation.specs.Refusal.{is_memory}
use Rattle.rpki_validation.specs.Revoked.{IsRevokedAt, IsUnrevoked}
use Rattle.rpki_validation.specs.declared.grounds.Grounds.{Grounds}
use Rattle.rpki_validation.specs.declared.question.Question.{Question}
use Rattle.rpki_validation.specs.declared.refusal.Refusal.{Refusal}
use Rattle.rpki_validation.specs.declared.refusal.Refusal.TheVariants.{Check, Memory, Revoked}

-- What a check of octets answers on these grounds: `Ok` exactly if they begin with an object for
-- which every check holds and whose certificate passes by `Says`; else the fault of the first check
-- that fails (`Checks`, `IsExact`). Digests are SHA-256, and signatures RSASSA-PKCS1-v1_5 with
-- SHA-256 (RFC 7935, section 2; RFC 8017, section 8.2.2).
pub record ChecksAsking {X : Type 0} (kind : ObjectKind X) (form : List ℕ → X → Type 0) (mode : Mode)
    (g : Grounds) (Says : KeptCertificate → Result (Unit {0}) ValidationError → Type 0)
    (octets : List ℕ) (result : Result (Validated × X) CheckError) : Type 0 where
  pub first : Checks kind form mode sha256 is_rsa_signature g.issuer g.moment Says octets result
  pub exact : IsExact kind form mode sha256 is_rsa_signature g.issuer g.moment Says octets result

-- before the lists are asked, every certificate passes
abbrev pub passes : KeptCertificate → Result (Unit {0}) ValidationError → Type 0
passes cert said = said ≡ Ok tt

-- What a check of octets answers on these grounds before the lists are asked.
abbrev pub ChecksOn : {X : Type 0} → ObjectKind X → (List ℕ → X → Type 0) → Mode → Grounds → List ℕ
    → Result (Validated × X) CheckError → Type 0
ChecksOn kind form mode g octets result = ChecksAsking kind form mode g passes octets result

-- what is found on these grounds: the content of a good object whose certificate no list revokes, or
-- the cause of a refusal; want of memory is always possible
abbrev pub IsFoundOn : {X : Type 0} → ObjectKind X → (List ℕ → X → Type 0) → Mode → Grounds → List ℕ
    → Result X Refusal → Type 0
IsFoundOn kind form mode g octets (Ok x) = (cert : Validated)
    × ChecksOn kind form mode g octets (Ok (cert, x))
    × IsUnrevoked g.lists.items g.issuer.cert.certificate cert.cert.certificate
IsFoundOn kind form mode g octets (Err (Check fault)) = ChecksOn kind form mode g octets (Err fault)
IsFoundOn {X} kind form mode g octets (Err (Revoked place)) = (cert : Validated) × (x : X)
    × ChecksOn kind form mode g octets (Ok (cert, x))
    × IsRevokedAt g.lists.items g.issuer.cert.certificate cert.cert.certificate place
IsFoundOn kind form mode g octets (Err Memory) = Unit {0}
IsFoundOn kind form mode g octets (Err other) = ⊥

-- The question has grounds, and this is found on them.
pub record IsFoundIn {X : Type 0} (kind : ObjectKind X) (form : List ℕ → X → Type 0) (q : Question)
    (octets : List ℕ) (result : Result X Refusal) : Type 0 where
  pub grounds : Grounds
  pub are : AreGroundsOf q grounds
  pub found : IsFoundOn kind form (mode_of q.manner.strict) grounds octets result

-- the answer to a question: why it has no grounds, or what is found on them
abbrev pub IsFound : {X : Type 0} → ObjectKind X → (List ℕ → X → Type 0) → Question → List ℕ
    → Result X Refusal → Type 0
IsFound kind form q octets result =
    ((refusal : Refusal) × HasNoGrounds q refusal × (result ≡ Err refusal))
    ⊎ IsFoundIn kind form q octets result

-- ---- the headline

-- a certificate passes exactly if no list of these grounds revokes it
abbrev pub SaysOf : Grounds → KeptCertificate → Result (Unit {0}) ValidationError → Type 0
SaysOf g k (Ok done) = IsUnrevoked g.lists.items g.issuer.cert.certificate k.certificate
SaysOf g k (Err fault) = ¬ IsUnrevoked g.lists.items g.issuer.cert.certificate k.certificate

-- On these grounds the octets begin with a good object: every check of it holds under the issuer at
-- the moment, and no list revokes its certificate.
abbrev pub IsGoodOn : {X : Type 0} → ObjectKind X → (List ℕ → X → Type 0) → Mode → Grounds → List ℕ
    → Type 0
IsGoodOn kind form mode g octets = BeginsWithGood kind form mode sha256 is_rsa_signature g.issuer
    g.moment (SaysOf g) octets

-- On any grounds a content is found only where the octets begin with a good object of this kind; and
-- where they are refused, and not for want of memory, they begin with none.
pub record IsDecidedOn {X : Type 0} (kind : ObjectKind X) (form : List ℕ → X → Type 0) : Type 0 where
  pub yes : (mode : Mode) (g : Grounds) (octets : List ℕ) (x : X)
      → IsFoundOn kind form mode g octets (Ok x) → IsGoodOn kind form mode g octets
  pub no : (mode : Mode) (g : Grounds) (octets : List ℕ) (refusal : Refusal)
      → IsFoundOn kind form mode g octets (Err refusal) → is_memory refusal ≡ false
      → ¬ IsGoodOn kind form mode g octets

-- The octets begin with a good object: the certificates make an issuer at the moment of the
-- question, under which every check of the object holds, and no list revokes a certificate of the
-- chain or that of the object.
pub record IsGoodFor {X : Type 0} (kind : ObjectKind X) (form : List ℕ → X → Type 0) (q : Question)
    (octets : List ℕ) : Type 0 where
  pub grounds : Grounds
  pub are : AreGroundsOf q grounds
  pub good : IsGoodOn kind form (mode_of q.manner.strict) grounds octets

-- The question has grounds, and on them the octets begin with no good object.
pub record IsNotGoodOn {X : Type 0} (kind : ObjectKind X) (form : List ℕ → X → Type 0)
    (q : Question) (octets : List ℕ) : Type 0 where
  pub grounds : Grounds
  pub are : AreGroundsOf q grounds
  pub none : ¬ IsGoodOn kind form (mode_of q.manner.strict) grounds octets

-- The question has no grounds, and not for want of memory, or the octets begin with no good object.
abbrev pub IsNotGoodFor : {X : Type 0} → ObjectKind X → (List ℕ → X → Type 0) → Question → List ℕ
    → Type 0
IsNotGoodFor kind form q octets =
    ((refusal : Refusal) × HasNoGrounds q refusal × (is_memory refusal ≡ false))
    ⊎ IsNotGoodOn kind form q octets

-- To any question a content is found only where the octets begin with a good object of this kind; they
-- are refused, unless for want of memory, only where they do not; and never do both hold, whichever
-- grounds of the question are taken.
pub record IsDecided {X : Type 0} (kind : ObjectKind X) (form : List ℕ → X → Type 0) : Type 0 where
  pub on : IsDecidedOn kind form
  pub yes : (q : Question) (octets : List ℕ) (x : X) → IsFound kind form q octets (Ok x)
      → IsGoodFor kind form q octets
  pub no : (q : Question) (octets : List ℕ) (refusal : Refusal)
      → IsFound kind form q octets (Err refusal) → is_memory refusal ≡ false
      → IsNotGoodFor kind form q octets
  pub never : (q : Question) (octets : List ℕ) → IsNotGoodFor kind form q octets
      → ¬ IsGoodFor kind form q octets
