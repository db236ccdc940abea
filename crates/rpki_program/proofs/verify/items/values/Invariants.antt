use Rattle.std.proofs.Common.{◌≡◌, take}
use Rattle.rpki_cli.specs.Words.{texts}
use Rattle.rpki_program.specs.Verify.Items.{values}
use Rattle.rpki_program.proofs.verify.items.values.Given as goal

-- the values of the items so far
abbrev pub invariant-loop-item : goal.invariant-loop-item
invariant-loop-item l = values l.name (take l.item-index l.items) ≡ texts l.values.items
