use Rattle.rpki_der.specs.Tags.{SEQUENCE}
use Rattle.rpki_resources.proofs.Readings.{part-reading}
use Rattle.rpki_sigobj.proofs.Objects.Exact.{object-part}
use Rattle.rpki_sigobj.proofs.laws.signed_objects.Goals as goal

pub returns : goal.returns
returns c = part-reading object-part (λ mode o x h. (SEQUENCE, h.1.0, h.1.1))
