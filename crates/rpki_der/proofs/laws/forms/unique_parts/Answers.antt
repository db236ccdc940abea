use Rattle.rpki_der.proofs.Form.Words.{part-unique}
use Rattle.rpki_der.proofs.laws.forms.unique_parts.Goals as goal

pub returns : goal.returns
returns g c = λ first part mode. part-unique part mode
