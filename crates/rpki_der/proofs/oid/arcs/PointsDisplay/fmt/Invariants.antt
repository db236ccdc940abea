use Rattle.std.proofs.Common.{◌≡◌, ◌++◌, List, ℕ, true, length}
use Rattle.std.specs.List.{flat_map}
use Rattle.std.specs.Fmt.{HasWritten, IsPlainFormatter}
use Rattle.rpki_der.specs.Oid.{subidentifiers, point}
use Rattle.rpki_der.specs.Text.Arcs.{is_whole, are_small}
use Rattle.rpki_der.proofs.oid.arcs.PointsDisplay.fmt.Given as goal

abbrev pub invariant-loop-arc : goal.invariant-loop-arc
invariant-loop-arc g l =
    (is_whole l.rest ≡ true) × (are_small (subidentifiers 0 l.rest) ≡ true)
    × (IsPlainFormatter l.initial.f
    → (written : List ℕ) × HasWritten g.W.Write.write_str_gives l.initial.f written l.f
    × (written ++ flat_map point (subidentifiers 0 l.rest)
    ≡ flat_map point (subidentifiers 0 l.initial.rest)))

abbrev pub decreases-loop-arc : goal.decreases-loop-arc
decreases-loop-arc g l = length l.rest
