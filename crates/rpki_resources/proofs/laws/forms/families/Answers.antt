use Rattle.rpki_resources.proofs.Families.Writing.{family-reading}
use Rattle.rpki_resources.proofs.laws.forms.families.Goals as goal

pub returns : goal.returns
returns c = family-reading
