-- Refusals in the words of C, which names no place and has no locators.
use Rattle.std.specs.Prelude.{◌≡◌}
use Rattle.rpki_faults.specs.declared.validation.ValidationError.TheVariants.{Verification}
use Rattle.rpki_faults.specs.declared.verification.VerificationError.TheVariants as faults
use Rattle.rpki_certs.specs.declared.issuer.IssuerError.TheVariants as issuing
use Rattle.rpki_signed.specs.declared.check.CheckError.TheVariants as checking
use Rattle.rpki_validation.specs.declared.refusal.CaFault.TheVariants as ca
use Rattle.rpki_validation.specs.declared.refusal.IssuerFault.TheVariants.{Anchor, Chain, OtherKey}
use Rattle.rpki_validation.specs.declared.refusal.Refusal.{Refusal as Cause}
use Rattle.rpki_validation.specs.declared.refusal.Refusal.TheVariants as causes
use Rattle.rpki_check.specs.declared.refusal.Refusal.{Refusal}
use Rattle.rpki_check.specs.declared.refusal.Refusal.TheVariants.{Check, Issuer, Memory, NoList}

-- It has to do with no locator.
abbrev pub IsUnlocated : Cause → Type 0
IsUnlocated causes.NoLocator = ⊥
IsUnlocated (causes.Issuer OtherKey) = ⊥
IsUnlocated other = Unit {0}

-- C is told of a cause by this refusal. A certificate of the chain that a list revokes is told as one
-- that is revoked, and one of an object as what the caller refuses.
abbrev pub IsToldAs : Cause → Refusal → Type 0
IsToldAs causes.Memory refusal = refusal ≡ Memory
IsToldAs causes.NoLocator refusal = ⊥
IsToldAs (causes.NoList place) refusal = refusal ≡ NoList
IsToldAs (causes.Issuer (Anchor fault)) refusal = refusal ≡ Issuer fault
IsToldAs (causes.Issuer OtherKey) refusal = ⊥
IsToldAs (causes.Issuer (Chain place (ca.Error fault))) refusal = refusal ≡ Issuer fault
IsToldAs (causes.Issuer (Chain place (ca.Revoked list))) refusal =
    refusal ≡ Issuer (issuing.Validation (Verification faults.Revoked))
IsToldAs (causes.Check fault) refusal = refusal ≡ Check fault
IsToldAs (causes.Revoked place) refusal =
    refusal ≡ Check (checking.Validation (Verification faults.Caller))
