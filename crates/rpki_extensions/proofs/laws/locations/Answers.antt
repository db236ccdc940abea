use Rattle.rpki_der.specs.Tags.{SEQUENCE}
use Rattle.rpki_resources.proofs.Readings.{part-reading}
use Rattle.rpki_extensions.proofs.Uris.Exact.{points-part, authority-access-part}
use Rattle.rpki_extensions.proofs.Uris.Exact.{subject-access-part}
use Rattle.rpki_extensions.proofs.laws.locations.Goals as goal

pub returns-clause-lists : goal.returns-clause-lists
returns-clause-lists c = part-reading points-part (λ mode o x h. (SEQUENCE, h.0, h.1))

pub returns-clause-issuer : goal.returns-clause-issuer
returns-clause-issuer c =
    part-reading authority-access-part (λ mode o x h. (SEQUENCE, h.1.0, h.1.1))

pub returns-clause-subject : goal.returns-clause-subject
returns-clause-subject c =
    part-reading subject-access-part (λ mode o x h. (SEQUENCE, h.1.0, h.1.1))
