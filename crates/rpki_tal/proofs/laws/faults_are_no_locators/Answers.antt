use Rattle.rpki_tal.proofs.Unique.{no-tal}
use Rattle.rpki_tal.proofs.laws.faults_are_no_locators.Goals as goal

pub returns : goal.returns
returns c = λ text e fault uris key form. no-tal text e fault uris key form
