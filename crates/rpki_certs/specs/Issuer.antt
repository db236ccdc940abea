-- The issuer that certificates make (RFC 6487, section 7.2).
use Rattle.std.specs.Prelude.{◌≡◌, ◌⊎◌, ℕ, List, [], ◌∷◌, Result, Ok, Err}
use Rattle.rpki_der.specs.declared.mode.Mode.TheVariants.{Der}
use Rattle.rpki_der.specs.Form.Decodes.{IsOnlyFront}
use Rattle.rpki_der.specs.Grammar.{HasNoFront}
use Rattle.rpki_der.specs.Read.Reads.{Refuses}
use Rattle.rpki_der.specs.Text.Error.{error_text}
use Rattle.rpki_basics.specs.Moment.{Moment}
use Rattle.rpki_faults.specs.Checks.{Check, AllHold, IsFirstFault}
use Rattle.rpki_faults.specs.declared.validation.ValidationError.{ValidationError}
use Rattle.rpki_faults.specs.declared.validation.ValidationError.TheVariants.{Memory}
use Rattle.rpki_faults.specs.Text.Validation.{validation_text}
use Rattle.rpki_certs.specs.Cert.{Certificate, KeptCertificate, CertForm}
use Rattle.rpki_certs.specs.Validate.{Validated, ta_validation, ca_validation}
use Rattle.rpki_certs.specs.Validate.{IsAnchorOf, IsValidatedUnder}
use Rattle.rpki_certs.specs.Verify.{Verdict}
use Rattle.rpki_certs.specs.declared.issuer.IssuerError.{IssuerError}
use Rattle.rpki_certs.specs.declared.issuer.IssuerError.TheVariants.{Decode, Validation}

-- The octets begin with exactly one certificate in DER, and `P` holds for it.
pub record BeginsWithCert (octets : List ℕ) (P : Certificate → Type 0) : Type 0 where
  pub cert : Certificate
  pub rest : List ℕ
  pub front : IsOnlyFront (CertForm Der) octets cert rest
  pub holds : P cert

-- a certificate read in DER
abbrev pub in_der : Certificate → KeptCertificate
in_der c = record { certificate = c; mode = Der }

-- The result of reading a certificate and running its checks: a value with `IsValid` if all checks
-- hold, the fault of the first check that does not, or a decoding error if the octets begin with no
-- certificate. Running out of memory is a fault too.
abbrev pub OfCert : (Certificate → List (Check ValidationError))
    → (KeptCertificate → Validated → Type 0) → List ℕ → Result Validated IssuerError → Type 0
OfCert checks IsValid octets (Ok v) =
    BeginsWithCert octets (λ c. AllHold (checks c) × IsValid (in_der c) v)
OfCert checks IsValid octets (Err (Decode e)) = Refuses e (HasNoFront (CertForm Der) octets)
OfCert checks IsValid octets (Err (Validation fault)) =
    BeginsWithCert octets (λ c. (fault ≡ Memory) ⊎ IsFirstFault (checks c) fault)

-- The result for a trust anchor's certificate: the certificate with the resources it claims if it
-- is valid, or a fault (`OfCert`).
abbrev pub IsAnchored : Verdict → Moment → List ℕ → Result Validated IssuerError → Type 0
IsAnchored verdict now octets result =
    OfCert (λ c. ta_validation verdict c now) IsAnchorOf octets result

-- The result for a CA's certificate: the certificate with its validated resources if it is valid
-- under this issuer, or a fault (`OfCert`).
abbrev pub IsIssued : Verdict → Moment → Validated → List ℕ → Result Validated IssuerError → Type 0
IsIssued verdict now issuer octets result =
    OfCert (λ c. ca_validation verdict c issuer now) (λ k v. IsValidatedUnder k issuer v) octets
    result

-- Goes on with a valid certificate; a fault is the result itself.
abbrev pub Then : (Validated → Type 0) → Result Validated IssuerError
    → Result Validated IssuerError → Type 0
Then Next (Ok valid) result = Next valid
Then Next (Err fault) result = result ≡ Err fault

-- The result for a chain of CA certificates below this one: each is validated under the one before,
-- and the last is the result (this one if the chain is empty). Otherwise the result is the fault of
-- the first that is not valid, or that memory ran out.
abbrev pub Follows : Verdict → Moment → Validated → List (List ℕ)
    → Result Validated IssuerError → Type 0
Follows verdict now first [] result = result ≡ Ok first
Follows verdict now first (octets ∷ others) result =
    (next : Result Validated IssuerError) × IsIssued verdict now first octets next
    × Then (λ valid. Follows verdict now valid others result) next result

-- The result for a trust anchor's certificate and a chain of CA certificates below it. `verdict`
-- says which signatures are good; `now` is the time of validation. If every certificate is valid,
-- the first as a trust anchor's and each other under the one before, the result is the last one
-- with its resources. Otherwise it is the fault of the first that is not, or that memory ran out.
abbrev pub MakesIssuer : Verdict → Moment → List ℕ → List (List ℕ) → Result Validated IssuerError
    → Type 0
MakesIssuer verdict now anchor chain result =
    (first : Result Validated IssuerError) × IsAnchored verdict now anchor first
    × Then (λ valid. Follows verdict now valid chain result) first result

-- the text of the error
abbrev pub issuer_text : IssuerError → List ℕ
issuer_text (Decode error) = error_text error
issuer_text (Validation error) = validation_text error
