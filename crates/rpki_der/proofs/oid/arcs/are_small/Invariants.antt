use Rattle.std.proofs.Common.{◌≡◌, true, length}
use Rattle.rpki_der.specs.Oid.{subidentifiers}
use Rattle.rpki_der.specs.Text.Arcs.{is_whole, are_small}
use Rattle.rpki_der.proofs.oid.arcs.are_small.Given as goal

abbrev pub invariant-loop-rest : goal.invariant-loop-rest
invariant-loop-rest l = (is_whole l.rest ≡ true)
    × (are_small (subidentifiers 0 l.rest) ≡ are_small (subidentifiers 0 l.initial.rest))

abbrev pub decreases-loop-rest : goal.decreases-loop-rest
decreases-loop-rest l = length l.rest
