-- Faults that say no more than that memory ran out, and faults as a refusal keeps them.
use Rattle.std.specs.Prelude.{◌≡◌}
use Rattle.rpki_der.specs.declared.error.DecodeError.TheVariants as errors
use Rattle.rpki_faults.specs.declared.validation.ValidationError.TheVariants as faults
use Rattle.rpki_certs.specs.declared.issuer.IssuerError.{IssuerError}
use Rattle.rpki_certs.specs.declared.issuer.IssuerError.TheVariants as issuers
use Rattle.rpki_signed.specs.declared.check.CheckError.{CheckError}
use Rattle.rpki_signed.specs.declared.check.CheckError.TheVariants as checks

-- The fault of an object says no more than that memory ran out.
abbrev pub IsCheckMemory : CheckError → Type 0
IsCheckMemory (checks.Decode error) = error ≡ errors.Memory
IsCheckMemory (checks.Validation fault) = fault ≡ faults.Memory

-- The fault of a certificate says no more than that memory ran out.
abbrev pub IsIssuerMemory : IssuerError → Type 0
IsIssuerMemory (issuers.Decode error) = error ≡ errors.Memory
IsIssuerMemory (issuers.Validation fault) = fault ≡ faults.Memory

-- the fault of an object with nothing of its octets: what does not decode is malformed, whichever
-- fault was met first
abbrev pub plain_check : CheckError → CheckError
plain_check (checks.Decode error) = checks.Decode errors.Malformed
plain_check (checks.Validation fault) = checks.Validation fault

-- the fault of a certificate with nothing of its octets
abbrev pub plain_issuer : IssuerError → IssuerError
plain_issuer (issuers.Decode error) = issuers.Decode errors.Malformed
plain_issuer (issuers.Validation fault) = issuers.Validation fault
