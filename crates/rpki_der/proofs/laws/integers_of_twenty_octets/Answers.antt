use Rattle.rpki_der.proofs.Reading.Kinds.{reading-u160}
use Rattle.rpki_der.proofs.laws.integers_of_twenty_octets.Goals as goal

pub returns : goal.returns
returns c = reading-u160
