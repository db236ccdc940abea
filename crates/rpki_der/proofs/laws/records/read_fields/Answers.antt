use Rattle.rpki_der.proofs.Form.Fields.{field}
use Rattle.rpki_der.proofs.laws.records.read_fields.Goals as goal

pub returns : goal.returns
returns g c = λ first then apart f part others free. field f part others free
