use Rattle.rpki_resources.proofs.Prefixes.Writing.{prefix-reading}
use Rattle.rpki_resources.proofs.laws.forms.prefixes.Goals as goal

pub returns : goal.returns
returns c = prefix-reading
