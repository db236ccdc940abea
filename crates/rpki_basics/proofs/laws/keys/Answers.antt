use Rattle.rpki_der.proofs.Reading.Unique.{part-reading}
use Rattle.rpki_der.specs.Tags.{SEQUENCE}
use Rattle.rpki_basics.proofs.Keys.Parts.{key-part}
use Rattle.rpki_basics.proofs.laws.keys.Goals as goal

pub returns : goal.returns
returns c = part-reading key-part (λ mode o bits h. (SEQUENCE, h.0, h.1))
