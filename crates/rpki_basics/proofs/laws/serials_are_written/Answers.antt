use Rattle.rpki_basics.proofs.Serials.Written.{serial-written}
use Rattle.rpki_basics.proofs.Serials.Written.{serial-unique}
use Rattle.rpki_basics.proofs.Serials.Written.{serial-read}
use Rattle.rpki_basics.proofs.laws.serials_are_written.Goals as goal

pub returns-clause-written : goal.returns-clause-written
returns-clause-written c = serial-written

pub returns-clause-unique : goal.returns-clause-unique
returns-clause-unique c = serial-unique

pub returns-clause-read : goal.returns-clause-read
returns-clause-read c = serial-read
