use Rattle.rpki_der.specs.Tags.{SEQUENCE}
use Rattle.rpki_resources.proofs.Readings.{part-reading}
use Rattle.rpki_crls.proofs.ListExtensions.Exact.{crl-extensions-part}
use Rattle.rpki_crls.proofs.laws.extensions.Goals as goal

pub returns : goal.returns
returns c = part-reading crl-extensions-part (λ mode o x h. (SEQUENCE, h.1.0, h.1.1))
