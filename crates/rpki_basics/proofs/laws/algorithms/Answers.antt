use Rattle.rpki_der.proofs.Reading.Unique.{part-reading}
use Rattle.rpki_basics.proofs.Algorithms.Parts.{algorithm-part, digest-part, cms-part, cert-part}
use Rattle.rpki_basics.proofs.Algorithms.Parts.{one-algorithm, one-cms}
use Rattle.rpki_basics.specs.Algorithm.{sha_256, sha256_with_rsa}
use Rattle.rpki_basics.proofs.laws.algorithms.Goals as goal

pub returns-clause-any : goal.returns-clause-any
returns-clause-any c = part-reading algorithm-part one-algorithm

pub returns-clause-digest : goal.returns-clause-digest
returns-clause-digest c = part-reading digest-part (λ mode o _ h. one-algorithm mode o sha_256 h)

pub returns-clause-cms : goal.returns-clause-cms
returns-clause-cms c = part-reading cms-part one-cms

pub returns-clause-cert : goal.returns-clause-cert
returns-clause-cert c =
    part-reading cert-part (λ mode o _ h. one-algorithm mode o sha256_with_rsa h)
