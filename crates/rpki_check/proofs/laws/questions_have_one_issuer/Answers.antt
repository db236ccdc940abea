use Rattle.rpki_check.proofs.Asking.{not-refused, one-grounds}
use Rattle.rpki_check.proofs.laws.questions_have_one_issuer.Goals as goal

pub returns-clause-one : goal.returns-clause-one
returns-clause-one c = one-grounds

pub returns-clause-refused : goal.returns-clause-refused
returns-clause-refused c = not-refused
