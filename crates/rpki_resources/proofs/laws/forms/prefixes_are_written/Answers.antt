use Rattle.rpki_resources.proofs.Prefixes.Writing.{prefix-written, prefix-read}
use Rattle.rpki_resources.proofs.laws.forms.prefixes_are_written.Goals as goal

pub returns-clause-written : goal.returns-clause-written
returns-clause-written c = prefix-written

pub returns-clause-read : goal.returns-clause-read
returns-clause-read c = prefix-read
