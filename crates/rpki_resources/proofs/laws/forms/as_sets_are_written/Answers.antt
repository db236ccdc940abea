use Rattle.rpki_resources.proofs.AsNumbers.Writing.{as-written, as-read}
use Rattle.rpki_resources.proofs.laws.forms.as_sets_are_written.Goals as goal

pub returns-clause-written : goal.returns-clause-written
returns-clause-written c = as-written

pub returns-clause-read : goal.returns-clause-read
returns-clause-read c = as-read
