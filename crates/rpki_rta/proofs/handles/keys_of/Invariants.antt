-- The keys so far.
use Rattle.std.proofs.Common.{◌≡◌, take}
use Rattle.rpki_rta.proofs.handles.keys_of.Given as goal

abbrev pub invariant-loop-i : goal.invariant-loop-i
invariant-loop-i l = l.keys.items ≡ take l.i l.ids
