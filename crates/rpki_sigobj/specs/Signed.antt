-- Signed objects with their contents.
pub mod Good
pub mod Kind
pub mod Process
use Rattle.std.specs.Prelude.{ℕ, List}
use Rattle.rpki_der.specs.declared.mode.Mode.{Mode}
use Rattle.rpki_der.specs.declared.mode.Mode.TheVariants.{Der, Ber}
use Rattle.rpki_der.specs.Form.Made.{Begins}
use Rattle.rpki_sigobj.specs.Object.{SignedObject, SignedFormOf, KeptObject}
use Rattle.rpki_certs.specs.Cert.{KeptCertificate}

-- a signed object, and what its content says
pub record Whole (X : Type 0) : Type 0 where
  pub object : SignedObject
  pub content : X

-- A signed object of this type (RFC 6488, section 2), whose content's octets begin with what the
-- content says (RFC 5652, section 5.2). That octets may follow it there is this project's own rule.
abbrev pub ObjectForm : {X : Type 0} → List ℕ → (List ℕ → X → Type 0) → Mode → List ℕ → Whole X
    → Type 0
ObjectForm type form mode octets o =
    SignedFormOf type mode octets o.object × Begins form o.object.signed.content o.content

-- What is in the form in DER is in it in BER, and says the same (X.690, section 10).
abbrev pub IsInBer : {X : Type 0} → List ℕ → (List ℕ → X → Type 0) → Type 0
IsInBer {X} type form = (octets : List ℕ) (o : Whole X) → ObjectForm type form Der octets o
    → ObjectForm type form Ber octets o

-- A signed object, with the mode that it was read in, and what its content says.
pub record KeptWhole (X : Type 0) : Type 0 where
  pub object : KeptObject
  pub content : X

-- the signed object and what its content says, without the mode
abbrev pub whole_of : {X : Type 0} → KeptWhole X → Whole X
whole_of k = record { object = k.object.object; content = k.content }

-- The octets that are kept are those of the object, in their mode, and say what is kept as its
-- content, by some rule for how contents are read.
abbrev pub IsKeptWhole : {R X : Type 0} → List ℕ → (R → List ℕ → X → Type 0) → KeptWhole X → Type 0
IsKeptWhole {R} type form k = (rule : R)
    × ObjectForm type (form rule) k.object.mode k.object.object.octets (whole_of k)

-- the certificate of the signer, which was read in this mode
abbrev pub cert_in : {X : Type 0} → Mode → Whole X → KeptCertificate
cert_in mode o = record { certificate = o.object.signed.cert; mode = mode }
