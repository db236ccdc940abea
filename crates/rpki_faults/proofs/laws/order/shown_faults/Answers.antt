use Rattle.rpki_faults.proofs.Order.{hold-shown, hold-hidden, first-shown, first-hidden}
use Rattle.rpki_faults.proofs.laws.order.shown_faults.Goals as goal

pub returns-clause-hold : goal.returns-clause-hold
returns-clause-hold g c = λ shown.
    (hold-hidden shown g.F.Checks.checks, hold-shown shown g.F.Checks.checks)

pub returns-clause-fault : goal.returns-clause-fault
returns-clause-fault g c = λ shown. first-shown shown g.F.Checks.checks

pub returns-clause-other : goal.returns-clause-other
returns-clause-other g c = λ shown. first-hidden shown g.F.Checks.checks
