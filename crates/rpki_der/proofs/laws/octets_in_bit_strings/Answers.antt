use Rattle.rpki_der.proofs.Reading.Kinds.{reading-whole}
use Rattle.rpki_der.proofs.laws.octets_in_bit_strings.Goals as goal

pub returns : goal.returns
returns c = reading-whole
