-- The identifiers of the others so far.
use Rattle.std.proofs.Common.{◌≡◌, map, take}
use Rattle.rpki_paths.proofs.pairs.identifiers.Given as goal

abbrev pub invariant-loop-i : goal.invariant-loop-i
invariant-loop-i g l = l.ids.items ≡ map g.X.Seeks.held (take l.i l.others)
