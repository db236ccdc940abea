use Rattle.std.proofs.Common.{take}
use Rattle.std.specs.Prelude.{All}
use Rattle.rpki_program.specs.Verify.Requests.{IsTaken}
use Rattle.rpki_program.proofs.verify.words.refuse_others.Given as goal

-- the command takes the items so far
abbrev pub invariant-loop-item : goal.invariant-loop-item
invariant-loop-item l = All (IsTaken l.command) (take l.item-index l.items)
