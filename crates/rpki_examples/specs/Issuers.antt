-- Octets under the issuer that a chain of certificates makes.
use Rattle.std.specs.Prelude.{ℕ, List, Result, Ok, Err}
use Rattle.rpki_certs.specs.Validate.{Validated}
use Rattle.rpki_certs.specs.declared.issuer.IssuerError.{IssuerError}
use Rattle.rpki_certs.specs.Issuer.{issuer_text}
use Rattle.rpki_signed.specs.declared.check.CheckError.{CheckError}
use Rattle.rpki_signed.specs.Text.{check_text}
use Rattle.rpki_examples.specs.declared.issuers.ChainError.{ChainError}
use Rattle.rpki_examples.specs.declared.issuers.ChainError.TheVariants.{Issuer, Object}

-- the text of the fault in it
abbrev pub chain_text : ChainError → List ℕ
chain_text (Issuer error) = issuer_text error
chain_text (Object error) = check_text error

-- What is answered of an object where certificates make an issuer: what is answered of it under
-- this one. Where they make none, the answer is their fault.
abbrev pub UnderIssuer : {T : Type 0} → (Result Validated IssuerError → Type 0)
    → (Validated → Result T CheckError → Type 0) → Result T ChainError → Type 0
UnderIssuer Makes Answers (Ok value) =
    (issuer : Validated) × Makes (Ok issuer) × Answers issuer (Ok value)
UnderIssuer Makes Answers (Err (Issuer fault)) = Makes (Err fault)
UnderIssuer Makes Answers (Err (Object fault)) =
    (issuer : Validated) × Makes (Ok issuer) × Answers issuer (Err fault)
