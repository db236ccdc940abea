use Rattle.rpki_der.proofs.Form.Words.{items, all-items}
use Rattle.rpki_der.proofs.Form.Malformed.{items-end}
use Rattle.rpki_der.proofs.laws.forms.listed_parts.Goals as goal

pub returns-clause-tagged : goal.returns-clause-tagged
returns-clause-tagged g c = λ tag part. items tag part

pub returns-clause-any : goal.returns-clause-any
returns-clause-any g c = λ first part. all-items part

pub returns-clause-end : goal.returns-clause-end
returns-clause-end g c = λ tag part. items-end tag part
