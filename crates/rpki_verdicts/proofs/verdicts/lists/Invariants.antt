use Rattle.std.proofs.Common.{◌≡◌, ℕ, ◌<◌, List, get_or}
use Rattle.rpki_verdicts.specs.Verdicts.{line_of}
use Rattle.rpki_verdicts.proofs.verdicts.lists.Given as goal

-- none of the lines so far
abbrev pub invariant-loop-line : goal.invariant-loop-line
invariant-loop-line l = (k : ℕ) (d : List ℕ) → k < l.line-index
    → get_or l.lines k d ≡ line_of l.key l.message l.signature → ⊥
