use Rattle.rpki_basics.proofs.Algorithms.Written.{cert-written}
use Rattle.rpki_basics.proofs.algorithm.RpkiSignatureAlgorithm.encode_cert.Goals as goal

pub returns-clause-written : goal.returns-clause-written
returns-clause-written c = cert-written
