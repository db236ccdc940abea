use Rattle.rpki_faults.proofs.Order.{first-one}
use Rattle.rpki_faults.proofs.laws.order.one_fault_is_first.Goals as goal

pub returns : goal.returns
returns g c = first-one g.F.Checks.checks
