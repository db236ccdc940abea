-- Certificates and objects that a certification authority (CA) issued and did not revoke.
use Rattle.std.specs.Prelude.{ℕ, List, [], ◌∷◌, ◌++◌, Result}
use Rattle.rpki_basics.specs.Moment.{Moment}
use Rattle.rpki_faults.specs.Checks.{◌unless◌, AnswersFirstFault, Check}
use Rattle.rpki_faults.specs.declared.validation.ValidationError.{ValidationError}
use Rattle.rpki_faults.specs.declared.validation.ValidationError.TheVariants.{Verification}
use Rattle.rpki_faults.specs.declared.verification.VerificationError.TheVariants.{Caller}
use Rattle.rpki_crls.specs.Crl.{RevocationList}
use Rattle.rpki_certs.specs.Cert.{Certificate, KeptCertificate}
use Rattle.rpki_certs.specs.Issuer.{OfCert}
use Rattle.rpki_certs.specs.Validate.{Validated, ca_validation, IsValidatedUnder}
use Rattle.rpki_certs.specs.Verify.{Verdict}
use Rattle.rpki_certs.specs.declared.issuer.IssuerError.{IssuerError}
use Rattle.rpki_relying_party.specs.Point.{IsUnrevoked}

-- What the list says of a certificate: a yes exactly where it does not revoke it, and else that
-- the caller refuses it.
abbrev pub SaysOf : RevocationList → KeptCertificate → Result (Unit {0}) ValidationError → Type 0
SaysOf list k said =
    AnswersFirstFault ((Verification Caller unless IsUnrevoked list k.certificate) ∷ []) said

-- What is said of certificates is what the list says.
abbrev pub SaysAs : (KeptCertificate → Result (Unit {0}) ValidationError → Type 0)
    → RevocationList → Type 0
SaysAs Says list = (k : KeptCertificate) (said : Result (Unit {0}) ValidationError) → Says k said
    → SaysOf list k said

-- What is checked of a certificate under an issuer with this list, in this order: that it is a CA's
-- and valid (RFC 6487, section 7.2), and that the list does not revoke it, whichever list the
-- certificate names, which is this project's own rule.
abbrev pub ca_checks : Verdict → Moment → Validated → RevocationList → Certificate
    → List (Check ValidationError)
ca_checks verdict now issuer list c =
    ca_validation verdict c issuer now ++ (Verification Caller unless IsUnrevoked list c) ∷ []

-- What is answered of octets that may begin with the certificate of a CA: where each check holds,
-- it with its validated numbers, and else the fault of the first that does not (`OfCert`).
abbrev pub IsCaUnder : Verdict → Moment → Validated → RevocationList → List ℕ
    → Result Validated IssuerError → Type 0
IsCaUnder verdict now issuer list octets result =
    OfCert (λ c. ca_checks verdict now issuer list c) (λ k v. IsValidatedUnder k issuer v) octets
    result
