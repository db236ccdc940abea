use Rattle.std.proofs.Common.{ℕ, ◌<◌, List, get_or}
use Rattle.rpki_verdicts.specs.Verdicts.{IsLine}
use Rattle.rpki_verdicts.proofs.verdicts.are_lines.Given as goal

-- each of the lines so far
abbrev pub invariant-loop-line : goal.invariant-loop-line
invariant-loop-line l = (k : ℕ) (d : List ℕ) → k < l.line-index → IsLine (get_or l.lines k d)
