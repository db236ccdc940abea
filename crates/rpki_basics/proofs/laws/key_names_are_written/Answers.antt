use Rattle.rpki_basics.specs.Name.{key_name_octets}
use Rattle.rpki_basics.proofs.Names.Exact.{name-read}
use Rattle.rpki_basics.proofs.Names.Written.{key-name-written, key-name-skipped}
use Rattle.rpki_basics.proofs.Names.Unique.{key-name-only}
use Rattle.rpki_basics.proofs.laws.key_names_are_written.Goals as goal

pub returns-clause-written : goal.returns-clause-written
returns-clause-written c = key-name-written

pub returns-clause-only : goal.returns-clause-only
returns-clause-only c = key-name-only

pub returns-clause-name : goal.returns-clause-name
returns-clause-name c = key-name-skipped

pub returns-clause-read : goal.returns-clause-read
returns-clause-read c = λ mode id rest len.
    name-read mode (key_name_octets id) rest (key-name-skipped id len)
