use Rattle.rpki_der.specs.Tags.{BIT_STRING, SEQUENCE}
use Rattle.rpki_resources.proofs.Readings.{part-reading}
use Rattle.rpki_extensions.proofs.Values.{key-usage-part, purposes-part}
use Rattle.rpki_extensions.proofs.laws.usages.Goals as goal

pub returns-clause-usage : goal.returns-clause-usage
returns-clause-usage c = part-reading key-usage-part (λ mode o u h. (BIT_STRING, h.1.0, h.1.1))

pub returns-clause-purposes : goal.returns-clause-purposes
returns-clause-purposes c = part-reading purposes-part (λ mode o ps h. (SEQUENCE, h.0.0, h.0.1))
