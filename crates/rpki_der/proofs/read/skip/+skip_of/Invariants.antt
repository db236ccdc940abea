use Rattle.std.proofs.Common.{◌≡◌, ◌-◌, length}
use Rattle.rpki_der.specs.Read.Parse.{skip_at, all_of, there}
use Rattle.rpki_der.proofs.read.skip.+skip_of.Given as goal

abbrev pub decreases-skip_of : goal.decreases-skip_of
decreases-skip_of l = l.depth

abbrev pub invariant-loop-rest : goal.invariant-loop-rest
invariant-loop-rest l =
    there (all_of (skip_at (l.depth - 1)) l.mode l.rest)
    ≡ there (all_of (skip_at (l.depth - 1)) l.mode l.initial.rest)

abbrev pub decreases-loop-rest : goal.decreases-loop-rest
decreases-loop-rest l = length l.rest
