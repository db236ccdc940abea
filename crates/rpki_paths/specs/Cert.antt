-- Resource certificates, as far as a certification path looks at them (RFC 6487, RFC 3779).
use Rattle.std.specs.Prelude.{◌≡◌, ℕ, Bool, List, [], ◌∷◌, Option, None, Some, ◌⊎◌}
use Rattle.rpki_resources.specs.declared.block.Block.{Block}
use Rattle.rpki_resources.specs.declared.resources.Claim.{Claim}
use Rattle.rpki_faults.specs.declared.family.Family.{Family}
use Rattle.rpki_faults.specs.declared.overclaim.Overclaim.{Overclaim}

-- A set of AS numbers or of addresses, as its blocks.
abbrev pub Numbers : Type 0
Numbers = List (Block ℕ)

-- A carried certificate, with the answers that are asked about it. Identifiers and keys are octets.
pub record Cert : Type 0 where
  -- its place on a path: 0 of an end-entity certificate, one more than its index among the CAs of a
  -- CA; 0 where no path is spoken of
  pub place : ℕ
  -- the subject key identifier (RFC 6487, section 4.8.2)
  pub ski : List ℕ
  -- the authority key identifier, if there is one (RFC 6487, section 4.8.3)
  pub aki : Option (List ℕ)
  -- the bits of its key
  pub key : List ℕ
  pub serial : ℕ
  -- what becomes of numbers that the issuer has not (RFC 6487, section 7.2; RFC 8360, section 4.2)
  pub overclaim : Overclaim
  -- what it claims of each family (RFC 3779)
  pub claim : Family → Claim Numbers
  -- whether this key verifies its signature
  pub verifies : List ℕ → Bool
  -- whether it passes the inspection of its own kind, at the moment
  pub is_valid : Bool
  -- whether it passes the inspection of a trust anchor, at the moment
  pub is_anchor : Bool
  -- of a CA: whether the CRL that is paired with it lists the serial
  pub revokes : ℕ → Bool

-- The certificate at this place.
abbrev pub at_place : ℕ → Cert → Cert
at_place n c = record c { place = n }

-- The authority key identifier is left out or is the certificate's own (RFC 6487, section 4.8.3).
abbrev pub IsOwn : Option (List ℕ) → List ℕ → Type 0
IsOwn None ski = Unit {0}
IsOwn (Some aki) ski = aki ≡ ski

-- The certificate is of the form of a self-signed one.
abbrev pub IsSelfSigned : Cert → Type 0
IsSelfSigned c = IsOwn c.aki c.ski

-- The list has this element.
abbrev pub IsIn : {A : Type 0} → A → List A → Type 0
IsIn x [] = ⊥
IsIn x (y ∷ ys) = (x ≡ y) ⊎ IsIn x ys

-- No element of the list stands in it twice.
abbrev pub NoTwice : {A : Type 0} → List A → Type 0
NoTwice [] = Unit {0}
NoTwice (x ∷ xs) = ¬ (IsIn x xs) × NoTwice xs
