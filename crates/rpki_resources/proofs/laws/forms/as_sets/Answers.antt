use Rattle.rpki_resources.proofs.AsNumbers.Writing.{as-reading}
use Rattle.rpki_resources.proofs.laws.forms.as_sets.Goals as goal

pub returns : goal.returns
returns c = as-reading
