use Rattle.std.proofs.Common.{inl}
use Rattle.rpki_basics.proofs.Algorithms.Written.{rsa-written}
use Rattle.rpki_basics.proofs.algorithm.RpkiSignatureAlgorithm.encode_cms.Goals as goal

pub returns-clause-written : goal.returns-clause-written
returns-clause-written c = inl rsa-written
