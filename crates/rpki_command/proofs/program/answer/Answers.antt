use Rattle.rpki_cli.proofs.Orders.{asked-once}
use Rattle.rpki_cli.proofs.Running.{read-once}
use Rattle.rpki_command.specs.Command.{objects_program}
use Rattle.rpki_command.proofs.program.answer.Goals as goal

pub returns-in-Some-clause-reads : goal.returns-in-Some-clause-reads
returns-in-Some-clause-reads g c =
    read-once objects_program asked-once (g.S.Store.told c.args.store.now) _ _ _
    c.in-Some.order c.in-Some.ensures c.answer_order.ensures.reads
