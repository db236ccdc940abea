-- Each CA so far is visited.
use Rattle.std.proofs.Common.{◌≡◌, ℕ, ◌<◌, get_or}
use Rattle.rpki_paths.proofs.walks.first_unvisited.Given as goal

abbrev pub invariant-loop-i : goal.invariant-loop-i
invariant-loop-i l = (k : ℕ) → k < l.i → get_or l.visited k 0 ≡ 0 → ⊥
