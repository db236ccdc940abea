use Rattle.rpki_der.specs.Tags.{SEQUENCE}
use Rattle.rpki_der.proofs.Form.Words.{part-as, in-tag}
use Rattle.rpki_resources.proofs.Readings.{part-reading}
use Rattle.rpki_extensions.specs.Extension.{StandingForm}
use Rattle.rpki_extensions.proofs.CertExtensions.Exact.{standing-part}
use Rattle.rpki_extensions.proofs.laws.standing.Goals as goal

pub returns : goal.returns
returns c = λ known. part-reading {G = StandingForm known}
    (part-as (in-tag SEQUENCE (standing-part known))
    (λ mode o list h. ((h.0, h.1, h.2.0), h.2.1))
    (λ mode o list h. (h.0.0, h.0.1, (h.0.2, h.1))))
    (λ mode o list h. (SEQUENCE, h.0.0, h.0.1))
