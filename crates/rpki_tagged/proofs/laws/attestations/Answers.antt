use Rattle.rpki_der.specs.Tags.{SEQUENCE}
use Rattle.rpki_der.proofs.Reading.Unique.{part-reading}
use Rattle.rpki_tagged.proofs.Attestations.Exact.{attestation-part}
use Rattle.rpki_tagged.proofs.laws.attestations.Goals as goal

pub returns : goal.returns
returns c = part-reading attestation-part (λ mode o a h. (SEQUENCE, h.0, h.1))
