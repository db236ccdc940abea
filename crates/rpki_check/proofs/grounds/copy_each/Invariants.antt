use Rattle.std.proofs.Common.{◌≡◌, take}
use Rattle.rpki_check.specs.Grounds.{lent}
use Rattle.rpki_check.proofs.grounds.copy_each.Given as goal

-- the copies so far
abbrev pub invariant-loop-one : goal.invariant-loop-one
invariant-loop-one l = l.copies.items ≡ lent (take l.one-index l.octets)
