use Rattle.rpki_validation.proofs.Single.{memory-alone, one-grounds}
use Rattle.rpki_validation.proofs.laws.questions_have_one_issuer.Goals as goal

pub returns-clause-one : goal.returns-clause-one
returns-clause-one c = one-grounds

pub returns-clause-refused : goal.returns-clause-refused
returns-clause-refused c = memory-alone
