use Rattle.rpki_faults.proofs.Order.{hold-join, hold-split, first-join, first-split}
use Rattle.rpki_faults.proofs.laws.order.later_checks_follow.Goals as goal

pub returns-clause-hold : goal.returns-clause-hold
returns-clause-hold g c = (
  hold-split g.F.Checks.checks g.F.LaterChecks.later,
  hold-join g.F.Checks.checks g.F.LaterChecks.later,
)

pub returns-clause-fault : goal.returns-clause-fault
returns-clause-fault g c = λ fault. (
  first-split g.F.Checks.checks g.F.LaterChecks.later fault,
  first-join g.F.Checks.checks g.F.LaterChecks.later fault,
)
