-- The texts of validations.
use Rattle.std.specs.Prelude.{ℕ, List, codes}
use Rattle.rpki_faults.specs.declared.validation.ValidationError.{ValidationError}
use Rattle.rpki_faults.specs.declared.validation.ValidationError.TheVariants as errors
use Rattle.rpki_faults.specs.Text.Inspection.{inspection_text}
use Rattle.rpki_faults.specs.Text.Verification.{verification_text}

-- The text that says why a certificate or an object is not valid: that of the fault in it.
abbrev pub validation_text : ValidationError → List ℕ
validation_text (errors.Inspection error) = inspection_text error
validation_text (errors.Verification error) = verification_text error
validation_text errors.Memory = codes "out of memory"
