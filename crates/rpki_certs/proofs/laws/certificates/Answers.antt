use Rattle.rpki_der.specs.Tags.{SEQUENCE}
use Rattle.rpki_resources.proofs.Readings.{part-reading}
use Rattle.rpki_certs.proofs.Certs.Exact.{cert-part}
use Rattle.rpki_certs.proofs.laws.certificates.Goals as goal

pub returns : goal.returns
returns c = part-reading cert-part (λ mode o x h. (SEQUENCE, h.1.0, h.1.1))
