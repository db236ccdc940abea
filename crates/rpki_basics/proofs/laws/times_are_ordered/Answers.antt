use Rattle.rpki_basics.proofs.Times.Order.{stamp-order}
use Rattle.rpki_basics.proofs.Times.Order.{stamp-one}
use Rattle.rpki_basics.proofs.laws.times_are_ordered.Goals as goal

pub returns-clause-order : goal.returns-clause-order
returns-clause-order c = stamp-order

pub returns-clause-one : goal.returns-clause-one
returns-clause-one c = stamp-one
