use Rattle.rpki_der.specs.Tags.{SEQUENCE}
use Rattle.rpki_resources.proofs.Readings.{part-reading}
use Rattle.rpki_extensions.proofs.CertExtensions.Exact.{extension-part, extensions-part}
use Rattle.rpki_extensions.proofs.laws.extensions.Goals as goal

pub returns-clause-one : goal.returns-clause-one
returns-clause-one c = part-reading extension-part (λ mode o x h. (SEQUENCE, h.0, h.1))

pub returns-clause-all : goal.returns-clause-all
returns-clause-all c = part-reading extensions-part (λ mode o x h. (SEQUENCE, h.1.0, h.1.1))
