use Rattle.rpki_der.specs.Tags.{SEQUENCE}
use Rattle.rpki_resources.proofs.Readings.{part-reading}
use Rattle.rpki_extensions.proofs.Values.{basic-constraints-part}
use Rattle.rpki_extensions.proofs.laws.basic_constraints.Goals as goal

pub returns : goal.returns
returns c = part-reading basic-constraints-part (λ mode o ca h. (SEQUENCE, h.0, h.1))
