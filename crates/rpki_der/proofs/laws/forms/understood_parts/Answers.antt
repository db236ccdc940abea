use Rattle.rpki_der.proofs.Form.Words.{make, make-some}
use Rattle.rpki_der.proofs.laws.forms.understood_parts.Goals as goal

pub returns-clause-made : goal.returns-clause-made
returns-clause-made g c = λ first apart f part. make f part

pub returns-clause-partly : goal.returns-clause-partly
returns-clause-partly g c = λ first apart f part. make-some f part
