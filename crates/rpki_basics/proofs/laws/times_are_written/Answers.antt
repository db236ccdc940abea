use Rattle.rpki_basics.proofs.Times.Written.{time-written}
use Rattle.rpki_basics.proofs.Times.Written.{generalized-written}
use Rattle.rpki_basics.proofs.Times.Written.{time-only}
use Rattle.rpki_basics.proofs.Times.Written.{time-read}
use Rattle.rpki_basics.proofs.Times.Written.{generalized-read}
use Rattle.rpki_basics.proofs.laws.times_are_written.Goals as goal

pub returns-clause-written : goal.returns-clause-written
returns-clause-written c = time-written

pub returns-clause-generalized : goal.returns-clause-generalized
returns-clause-generalized c = generalized-written

pub returns-clause-only : goal.returns-clause-only
returns-clause-only c = time-only

pub returns-clause-read : goal.returns-clause-read
returns-clause-read c = time-read

pub returns-clause-read_generalized : goal.returns-clause-read_generalized
returns-clause-read_generalized c = generalized-read
