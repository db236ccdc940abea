use Rattle.rpki_der.proofs.Writing.Strings.{bits-written, bits-unique, bits-read, bits-whole}
use Rattle.rpki_der.proofs.Writing.Strings.{unused-same}
use Rattle.rpki_der.proofs.laws.written.bit_strings_are_written.Goals as goal

pub returns-clause-written : goal.returns-clause-written
returns-clause-written c = bits-written

pub returns-clause-read : goal.returns-clause-read
returns-clause-read c = bits-read

pub returns-clause-whole : goal.returns-clause-whole
returns-clause-whole c = bits-whole

pub returns-clause-bits : goal.returns-clause-bits
returns-clause-bits c = unused-same

pub returns-clause-unique : goal.returns-clause-unique
returns-clause-unique c = bits-unique
