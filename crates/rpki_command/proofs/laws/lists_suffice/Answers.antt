use Rattle.rpki_command.proofs.Listed.{good-by-list, never-no}
use Rattle.rpki_command.proofs.laws.lists_suffice.Goals as goal

pub returns-clause-yes : goal.returns-clause-yes
returns-clause-yes c = good-by-list

pub returns-clause-never_no : goal.returns-clause-never_no
returns-clause-never_no c = never-no
