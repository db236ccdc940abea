use Rattle.rpki_verdicts.proofs.Good.{all-lines, each-good, only-good}
use Rattle.rpki_verdicts.proofs.laws.lists_are_verdicts.Goals as goal

pub returns-clause-lines : goal.returns-clause-lines
returns-clause-lines c = all-lines

pub returns-clause-all : goal.returns-clause-all
returns-clause-all c = each-good

pub returns-clause-only : goal.returns-clause-only
returns-clause-only c = only-good
