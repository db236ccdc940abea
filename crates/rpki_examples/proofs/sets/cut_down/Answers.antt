use Rattle.rpki_examples.proofs.Common.{some-left}
use Rattle.rpki_examples.proofs.sets.cut_down.Goals as goal

pub returns-clause-left : goal.returns-clause-left
returns-clause-left c =
    some-left c.args.set.now c.args.other.now c.intersection_assign.new.self c.is_empty.result
    c.in_ok-intersection_assign.ensures.ok c.in_ok-intersection_assign.ensures.canonical
    c.is_empty.ensures
