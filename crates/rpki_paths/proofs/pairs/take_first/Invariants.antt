-- What is left to search has all that may fit.
use Rattle.std.proofs.Common.{◌≡◌, length}
use Rattle.rpki_paths.proofs.Taking.{IsTaking}
use Rattle.rpki_paths.proofs.pairs.take_first.Given as goal

abbrev pub invariant-loop-first : goal.invariant-loop-first
invariant-loop-first g l =
    (l.taken ≡ l.fn.taken)
    × IsTaking g.X.Seeks.held (g.X.Seeks.sought l.taker) (g.X.Seeks.verdict l.taker) l.others
    l.taken l.left l.initial.asked l.asked

abbrev pub decreases-loop-first : goal.decreases-loop-first
decreases-loop-first g l = length l.left
