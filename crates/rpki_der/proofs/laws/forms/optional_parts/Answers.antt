use Rattle.rpki_der.proofs.Form.Words.{option, default}
use Rattle.rpki_der.proofs.Form.Malformed.{option-refused, default-refused}
use Rattle.rpki_der.proofs.laws.forms.optional_parts.Goals as goal

pub returns-clause-optional : goal.returns-clause-optional
returns-clause-optional g c = λ tag part. option tag part

pub returns-clause-default : goal.returns-clause-default
returns-clause-default g c = λ tag d part. default tag part d

pub returns-clause-refused : goal.returns-clause-refused
returns-clause-refused g c = λ tag part. option-refused tag part

pub returns-clause-refused_default : goal.returns-clause-refused_default
returns-clause-refused_default g c = λ tag d part. default-refused tag part d
