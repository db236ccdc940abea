-- What is asked of a kind of signed objects.
use Rattle.std.specs.Prelude.{ℕ, List, Bool}
use Rattle.rpki_faults.specs.Checks.{Check}
use Rattle.rpki_faults.specs.declared.validation.ValidationError.{ValidationError}
use Rattle.rpki_extensions.specs.declared.claims.Claims.{Claims}
use Rattle.rpki_certs.specs.Validate.{Sets}

-- A kind of signed objects, by what its contents say.
pub record ObjectKind (X : Type 0) : Type 1 where
  -- the type of its contents, an OBJECT IDENTIFIER (RFC 5652, section 5.2)
  pub type : List ℕ
  -- whether the certificate of the signer has to say where the object is (RFC 6487, section
  -- 4.8.8.2; RFC 9323, section 2)
  pub is_published : Bool
  -- what is checked of what the certificate claims, before it is validated
  pub claimed : X → Claims → List (Check ValidationError)
  -- what is checked of the numbers that the certificate has, after it was validated
  pub held : X → Sets → List (Check ValidationError)
  -- what both mean: these claims are as the kind asks, and the numbers that it asks for lie in
  -- these sets, the validated ones of a certificate with these claims
  pub covers : X → Claims → Sets → Type 0
