use Rattle.std.proofs.Common.{◌≡◌, take}
use Rattle.rpki_cli.specs.Words.{texts}
use Rattle.rpki_program.specs.Verify.Items.{operands}
use Rattle.rpki_program.proofs.verify.items.operands.Given as goal

-- the operands among the items so far
abbrev pub invariant-loop-item : goal.invariant-loop-item
invariant-loop-item l = operands (take l.item-index l.items) ≡ texts l.operands.items
