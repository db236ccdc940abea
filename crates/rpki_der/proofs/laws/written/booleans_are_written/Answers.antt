use Rattle.rpki_der.proofs.Writing.Values.{boolean-written, boolean-unique, boolean-read}
use Rattle.rpki_der.proofs.laws.written.booleans_are_written.Goals as goal

pub returns-clause-written : goal.returns-clause-written
returns-clause-written c = boolean-written

pub returns-clause-unique : goal.returns-clause-unique
returns-clause-unique c = boolean-unique

pub returns-clause-read : goal.returns-clause-read
returns-clause-read c = boolean-read
