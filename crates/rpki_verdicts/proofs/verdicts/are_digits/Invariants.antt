use Rattle.std.proofs.Common.{ℕ, ◌<◌, IsTrue, get_or}
use Rattle.rpki_verdicts.specs.Verdicts.{is_lower_hex}
use Rattle.rpki_verdicts.proofs.verdicts.are_digits.Given as goal

-- each of the octets so far
abbrev pub invariant-loop-octet : goal.invariant-loop-octet
invariant-loop-octet l = (k : ℕ) (d : ℕ) → k < l.octet-index
    → IsTrue (is_lower_hex (get_or l.text k d))
