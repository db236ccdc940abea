use Rattle.rpki_resources.proofs.Families.ByFamily.{families-part}
use Rattle.rpki_resources.proofs.laws.forms.parts_by_family.Goals as goal

pub returns : goal.returns
returns g c = λ first value. families-part value
