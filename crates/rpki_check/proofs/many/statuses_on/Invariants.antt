use Rattle.std.proofs.Common.{take}
use Rattle.std.specs.List.{AllZip}
use Rattle.rpki_check.specs.Many.{IsStatusOn}
use Rattle.rpki_check.proofs.many.statuses_on.Given as goal

-- the statuses so far
abbrev pub invariant-loop-object : goal.invariant-loop-object
invariant-loop-object l =
    AllZip (IsStatusOn l.manner l.grounds) (take l.object-index l.objects) l.statuses.items
