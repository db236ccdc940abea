use Rattle.rpki_der.specs.Tags.{SEQUENCE}
use Rattle.rpki_resources.proofs.Readings.{part-reading}
use Rattle.rpki_extensions.proofs.Resources.{ip-claims-part}
use Rattle.rpki_extensions.proofs.laws.claims.Goals as goal

pub returns : goal.returns
returns c = part-reading ip-claims-part (λ mode o x h. (SEQUENCE, h.1.1.0, h.1.1.1))
