use Rattle.std.proofs.Common.{◌≡◌, map, take}
use Rattle.rpki_rta.specs.Refused.{supply_in}
use Rattle.rpki_program.specs.Verify.Rta.{supply_of}
use Rattle.rpki_program.proofs.verify.rta.supplies_of.Given as goal

-- what the anchors so far supply
abbrev pub invariant-loop-anchor : goal.invariant-loop-anchor
invariant-loop-anchor l =
    map supply_in l.supplies.items ≡ map supply_of (take l.anchor-index l.anchors)
