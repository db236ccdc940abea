use Rattle.rpki_der.proofs.Writing.Values.{list-written, list-unique, list-read}
use Rattle.rpki_der.proofs.laws.written.lists_are_written.Goals as goal

pub returns-clause-written : goal.returns-clause-written
returns-clause-written c = list-written

pub returns-clause-read : goal.returns-clause-read
returns-clause-read c = list-read

pub returns-clause-unique : goal.returns-clause-unique
returns-clause-unique c = list-unique
