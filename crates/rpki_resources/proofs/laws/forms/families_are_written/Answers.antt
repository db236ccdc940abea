use Rattle.rpki_resources.proofs.Families.Writing.{family-written, family-read}
use Rattle.rpki_resources.proofs.laws.forms.families_are_written.Goals as goal

pub returns-clause-written : goal.returns-clause-written
returns-clause-written c = family-written

pub returns-clause-read : goal.returns-clause-read
returns-clause-read c = family-read
