use Rattle.std.proofs.Common.{take}
use Rattle.rpki_validation.specs.Grounds.{AreLists}
use Rattle.rpki_validation.proofs.grounds.lists_of.Given as goal

-- the lists so far
abbrev pub invariant-loop-i : goal.invariant-loop-i
invariant-loop-i l = AreLists (take l.i l.octets) l.lists.items
