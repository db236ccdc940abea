use Rattle.rpki_tal.proofs.OneFault.{one-fault}
use Rattle.rpki_tal.proofs.laws.faults_are_one.Goals as goal

pub returns : goal.returns
returns c = λ text e other h k. one-fault text e other h k
