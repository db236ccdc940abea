use Rattle.rpki_command.proofs.Granted.{right-rta, right-no-rta}
use Rattle.rpki_command.proofs.laws.attestations_are_right.Goals as goal

pub returns-clause-yes : goal.returns-clause-yes
returns-clause-yes c = right-rta

pub returns-clause-no : goal.returns-clause-no
returns-clause-no c = right-no-rta
