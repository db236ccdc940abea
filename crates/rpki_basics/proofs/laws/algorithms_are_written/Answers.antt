use Rattle.std.proofs.Common.{inl}
use Rattle.rpki_basics.specs.Algorithm.{digest_algorithm_octets, cms_algorithm_octets}
use Rattle.rpki_basics.specs.Algorithm.{cert_algorithm_octets}
use Rattle.rpki_basics.proofs.Algorithms.Parts.{digest-part, cms-part, cert-part, read-back}
use Rattle.rpki_basics.proofs.Algorithms.Unique.{algorithm-only}
use Rattle.rpki_basics.proofs.Algorithms.Written.{digest-written, rsa-written, cert-written}
use Rattle.rpki_basics.proofs.laws.algorithms_are_written.Goals as goal

pub returns-clause-digest : goal.returns-clause-digest
returns-clause-digest c = digest-written

pub returns-clause-cms : goal.returns-clause-cms
returns-clause-cms c = inl rsa-written

pub returns-clause-cert : goal.returns-clause-cert
returns-clause-cert c = cert-written

pub returns-clause-only : goal.returns-clause-only
returns-clause-only c = algorithm-only

pub returns-clause-read_digest : goal.returns-clause-read_digest
returns-clause-read_digest c = λ mode rest.
    read-back digest-part mode digest_algorithm_octets tt rest digest-written

pub returns-clause-read_cms : goal.returns-clause-read_cms
returns-clause-read_cms c = λ mode rest.
    read-back cms-part mode cms_algorithm_octets tt rest (inl rsa-written)

pub returns-clause-read_cert : goal.returns-clause-read_cert
returns-clause-read_cert c = λ mode rest.
    read-back cert-part mode cert_algorithm_octets tt rest cert-written
