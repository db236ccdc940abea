use Rattle.rpki_rsa.proofs.Verdicts.{signature-test}
use Rattle.rpki_rsa.proofs.laws.verdicts.Goals as goal

pub returns : goal.returns
returns c = signature-test
