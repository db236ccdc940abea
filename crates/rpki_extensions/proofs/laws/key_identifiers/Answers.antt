use Rattle.rpki_der.specs.Tags.{SEQUENCE}
use Rattle.rpki_der.proofs.Reading.Unique.{octets-one}
use Rattle.rpki_resources.proofs.Readings.{part-reading}
use Rattle.rpki_extensions.proofs.Values.{subject-key-part, authority-key-part}
use Rattle.rpki_extensions.proofs.laws.key_identifiers.Goals as goal

pub returns-clause-subject : goal.returns-clause-subject
returns-clause-subject c =
    part-reading subject-key-part (λ mode o id h. octets-one 32 mode o id h.0)

pub returns-clause-authority : goal.returns-clause-authority
returns-clause-authority c = part-reading authority-key-part (λ mode o id h. (SEQUENCE, h.0, h.1))
