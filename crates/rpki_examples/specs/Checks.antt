-- The checks of a certificate at a moment, in their order.
use Rattle.std.specs.Prelude.{◌≤◌, ℕ, List, [], ◌∷◌}
use Rattle.rpki_resources.specs.declared.block.Block.{Block}
use Rattle.rpki_basics.specs.Moment.{Moment, Period, stamp}
use Rattle.rpki_extensions.specs.declared.claims.Claims.{Claims}
use Rattle.rpki_faults.specs.Checks.{Check, ◌unless◌}
use Rattle.rpki_faults.specs.Validated.{IsAllowed}
use Rattle.rpki_faults.specs.declared.family.Family.TheVariants.{As}
use Rattle.rpki_faults.specs.declared.validation.ValidationError.{ValidationError}
use Rattle.rpki_faults.specs.declared.validation.ValidationError.TheVariants.{Verification}
use Rattle.rpki_faults.specs.declared.verification.VerificationError.{VerificationError}
use Rattle.rpki_faults.specs.declared.verification.VerificationError.TheVariants.{NotYetValid}
use Rattle.rpki_faults.specs.declared.verification.VerificationError.TheVariants.{Expired}
use Rattle.rpki_faults.specs.declared.verification.VerificationError.TheVariants.{Overclaimed}

-- The moment is not before the validity begins and not after it ends: both ends belong to it (RFC
-- 5280, section 4.1.2.5).
abbrev pub moment_checks : Period → Moment → List (Check VerificationError)
moment_checks validity now =
    (NotYetValid unless (stamp validity.not_before ≤ stamp now))
    ∷ (Expired unless (stamp now ≤ stamp validity.not_after))
    ∷ []

-- The issuer has the AS numbers that are claimed, where it has to (RFC 6487, section 7.2).
abbrev pub as_checks : Claims → List (Block ℕ) → List (Check ValidationError)
as_checks claims issuer =
    (Verification (Overclaimed As)
    unless IsAllowed (λ (n : ℕ). n) claims.policy claims.as_numbers issuer)
    ∷ []
