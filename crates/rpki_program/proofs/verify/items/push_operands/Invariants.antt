use Rattle.std.proofs.Common.{◌≡◌, ◌++◌, map, take}
use Rattle.rpki_cli.specs.Words.{texts}
use Rattle.rpki_program.specs.declared.verify.items.Item.TheVariants.{Operand}
use Rattle.rpki_program.proofs.verify.items.push_operands.Given as goal

-- the words so far are operands
abbrev pub invariant-loop-word : goal.invariant-loop-word
invariant-loop-word l =
    l.items.items ≡ l.fn.items.items ++ map Operand (texts (take l.word-index l.words))
