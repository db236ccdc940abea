use Rattle.rpki_der.proofs.Writing.Values.{octets-written, octets-unique, octets-read}
use Rattle.rpki_der.proofs.laws.written.octet_strings_are_written.Goals as goal

pub returns-clause-written : goal.returns-clause-written
returns-clause-written c = octets-written

pub returns-clause-unique : goal.returns-clause-unique
returns-clause-unique c = octets-unique

pub returns-clause-read : goal.returns-clause-read
returns-clause-read c = octets-read
