use Rattle.rpki_command.proofs.Walked.{right-walk, right-no-walk}
use Rattle.rpki_command.proofs.laws.walks_are_right.Goals as goal

pub returns-clause-yes : goal.returns-clause-yes
returns-clause-yes c = right-walk

pub returns-clause-no : goal.returns-clause-no
returns-clause-no c = right-no-walk
