use Rattle.rpki_der.specs.Tags.{SEQUENCE}
use Rattle.rpki_der.proofs.Reading.After.{leaves-after}
use Rattle.rpki_basics.specs.Key.{KeyForm}
use Rattle.rpki_basics.proofs.laws.octets_after_a_key_are_left.Goals as goal

pub returns : goal.returns
returns c = λ mode. leaves-after mode (KeyForm mode) (λ o bits h. (SEQUENCE, h.0, h.1))
