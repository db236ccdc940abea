use Rattle.rpki_der.proofs.Form.Fields.{done, within-if}
use Rattle.rpki_der.proofs.laws.records.whole_records.Goals as goal

pub returns-clause-done : goal.returns-clause-done
returns-clause-done g c = λ r known alone. done r known alone

pub returns-clause-within : goal.returns-clause-within
returns-clause-within g c = λ tag first fields. within-if tag fields
