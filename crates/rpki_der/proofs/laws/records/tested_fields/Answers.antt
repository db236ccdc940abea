use Rattle.rpki_der.proofs.Form.Fields.{guard}
use Rattle.rpki_der.proofs.laws.records.tested_fields.Goals as goal

pub returns : goal.returns
returns g c = λ then test passes others. guard test passes others
