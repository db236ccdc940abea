use Rattle.rpki_der.proofs.Reading.Kinds.{reading-u8}
use Rattle.rpki_der.proofs.laws.integers_of_one_octet.Goals as goal

pub returns : goal.returns
returns c = reading-u8
