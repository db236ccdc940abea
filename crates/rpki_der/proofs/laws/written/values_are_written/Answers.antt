use Rattle.rpki_der.proofs.Writing.Lengths.{value-written, value-unique}
use Rattle.rpki_der.proofs.Writing.Leaves.{value-read}
use Rattle.rpki_der.proofs.laws.written.values_are_written.Goals as goal

pub returns-clause-written : goal.returns-clause-written
returns-clause-written c = value-written

pub returns-clause-unique : goal.returns-clause-unique
returns-clause-unique c = value-unique

pub returns-clause-read : goal.returns-clause-read
returns-clause-read c = value-read
