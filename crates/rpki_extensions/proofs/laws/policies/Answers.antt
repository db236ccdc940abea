use Rattle.rpki_der.specs.Tags.{SEQUENCE}
use Rattle.rpki_resources.proofs.Readings.{part-reading}
use Rattle.rpki_extensions.proofs.Resources.{policies-part}
use Rattle.rpki_extensions.proofs.laws.policies.Goals as goal

pub returns : goal.returns
returns c = part-reading policies-part (λ mode o x h. (SEQUENCE, h.0, h.1))
