use Rattle.std.proofs.Common.{take}
use Rattle.std.specs.Prelude.{All}
use Rattle.rpki_program.specs.Verify.Requests.{IsOperand}
use Rattle.rpki_program.proofs.verify.words.refuse_options.Given as goal

-- the items so far are operands
abbrev pub invariant-loop-item : goal.invariant-loop-item
invariant-loop-item l = All IsOperand (take l.item-index l.items)
