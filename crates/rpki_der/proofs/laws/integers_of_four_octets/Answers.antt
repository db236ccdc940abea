use Rattle.rpki_der.proofs.Reading.Kinds.{reading-u32}
use Rattle.rpki_der.proofs.laws.integers_of_four_octets.Goals as goal

pub returns : goal.returns
returns c = reading-u32
