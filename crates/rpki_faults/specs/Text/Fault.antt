-- The texts of faults.
use Rattle.std.specs.Prelude.{ℕ, List}
use Rattle.rpki_faults.specs.declared.text.FaultText.{FaultText}
use Rattle.rpki_faults.specs.declared.text.FaultText.TheVariants.{Fixed, Uncovered}
use Rattle.rpki_faults.specs.Text.Verification.{uncovered_text}

-- What the text of a fault says: its words, or those of a prefix that a certificate does not have.
abbrev pub text_of : FaultText → List ℕ
text_of (Fixed words) = words.now
text_of (Uncovered uncovered) = uncovered_text uncovered
