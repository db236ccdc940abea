use Rattle.rpki_der.proofs.Writing.Values.{number-written, number-unique, number-read, u8-read}
use Rattle.rpki_der.proofs.laws.written.numbers_are_written.Goals as goal

pub returns-clause-written : goal.returns-clause-written
returns-clause-written c = number-written

pub returns-clause-read : goal.returns-clause-read
returns-clause-read c = number-read

pub returns-clause-read_u8 : goal.returns-clause-read_u8
returns-clause-read_u8 c = u8-read

pub returns-clause-unique : goal.returns-clause-unique
returns-clause-unique c = number-unique
