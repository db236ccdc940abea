use Rattle.rpki_basics.proofs.Algorithms.Written.{digest-written}
use Rattle.rpki_basics.proofs.algorithm.DigestAlgorithm.encode_ref.Goals as goal

pub returns-clause-written : goal.returns-clause-written
returns-clause-written c = digest-written
