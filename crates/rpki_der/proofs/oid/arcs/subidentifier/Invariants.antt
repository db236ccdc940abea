use Rattle.std.proofs.Common.{◌≡◌, ◌<◌, ◌^◌, length}
use Rattle.rpki_der.specs.Text.Arcs.{first_below}
use Rattle.rpki_der.proofs.oid.arcs.subidentifier.Given as goal

abbrev pub invariant-loop-octet : goal.invariant-loop-octet
invariant-loop-octet l = (first_below l.limit l.n l.rest ≡ first_below l.limit 0 l.initial.rest)
    × (l.n < 2 ^ 40)

abbrev pub decreases-loop-octet : goal.decreases-loop-octet
decreases-loop-octet l = length l.rest
