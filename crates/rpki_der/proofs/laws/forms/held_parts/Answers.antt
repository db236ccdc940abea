use Rattle.rpki_der.proofs.Form.Words.{in-tag}
use Rattle.rpki_der.proofs.laws.forms.held_parts.Goals as goal

pub returns : goal.returns
returns g c = λ tag first apart part. in-tag tag part
