use Rattle.rpki_faults.proofs.Order.{first-contained, first-fails}
use Rattle.rpki_faults.proofs.laws.order.answers_without_a_value.Goals as goal

pub returns-clause-contained : goal.returns-clause-contained
returns-clause-contained g c = first-contained g.F.Checks.checks

pub returns-clause-fails : goal.returns-clause-fails
returns-clause-fails g c = first-fails g.F.Checks.checks
