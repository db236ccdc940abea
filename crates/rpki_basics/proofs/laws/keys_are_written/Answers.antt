use Rattle.rpki_basics.proofs.Algorithms.Unique.{key-only}
use Rattle.rpki_basics.proofs.Keys.Written.{key-written, key-read}
use Rattle.rpki_basics.proofs.laws.keys_are_written.Goals as goal

pub returns-clause-written : goal.returns-clause-written
returns-clause-written c = key-written

pub returns-clause-read : goal.returns-clause-read
returns-clause-read c = key-read

pub returns-clause-only : goal.returns-clause-only
returns-clause-only c = key-only
