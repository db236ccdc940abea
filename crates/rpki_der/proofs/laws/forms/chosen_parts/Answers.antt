use Rattle.rpki_der.proofs.Form.Words.{choice}
use Rattle.rpki_der.proofs.laws.forms.chosen_parts.Goals as goal

pub returns : goal.returns
returns g c = λ tag second one two apart. choice tag one two apart
