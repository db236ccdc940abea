-- Who says it has run the words.
use Rattle.rpki_cli.proofs.Orders.{asked-once}
use Rattle.rpki_cli.proofs.Running.{run-said}
use Rattle.rpki_command.specs.Command.{objects_program}
use Rattle.rpki_command.proofs.program.ObjectsProgram.answer.Goals as goal

pub returns-clause-run : goal.returns-clause-run
returns-clause-run g c = λ run h.
    run-said objects_program asked-once _ _ _ _ _ c.answer.ensures.said run h
