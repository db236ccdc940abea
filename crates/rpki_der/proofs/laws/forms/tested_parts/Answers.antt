use Rattle.rpki_der.proofs.Form.Words.{pass, ignore, keep}
use Rattle.rpki_der.proofs.laws.forms.tested_parts.Goals as goal

pub returns-clause-tested : goal.returns-clause-tested
returns-clause-tested g c = λ first apart test part. pass test part (λ x. (λ e. e, λ e. e))

pub returns-clause-ignored : goal.returns-clause-ignored
returns-clause-ignored g c = λ first apart part. ignore part

pub returns-clause-kept : goal.returns-clause-kept
returns-clause-kept g c = λ first apart part. keep part
