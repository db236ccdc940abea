-- The texts of faults of checks.
use Rattle.std.specs.Prelude.{ℕ, List}
use Rattle.rpki_der.specs.Text.Error.{error_text}
use Rattle.rpki_faults.specs.Text.Validation.{validation_text}
use Rattle.rpki_signed.specs.declared.check.CheckError.{CheckError}
use Rattle.rpki_signed.specs.declared.check.CheckError.TheVariants.{Decode, Validation}

-- the text of the fault in it
abbrev pub check_text : CheckError → List ℕ
check_text (Decode error) = error_text error
check_text (Validation error) = validation_text error
