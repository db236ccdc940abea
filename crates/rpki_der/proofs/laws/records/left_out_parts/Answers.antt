use Rattle.rpki_der.proofs.Form.Fields.{skipped}
use Rattle.rpki_der.proofs.laws.records.left_out_parts.Goals as goal

pub returns : goal.returns
returns g c = λ first then apart part others free. skipped part others free
