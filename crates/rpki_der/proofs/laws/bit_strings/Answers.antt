use Rattle.rpki_der.proofs.Reading.Kinds.{reading-bits}
use Rattle.rpki_der.proofs.laws.bit_strings.Goals as goal

pub returns : goal.returns
returns c = reading-bits
