use Rattle.rpki_der.proofs.Reading.Kinds.{reading-octets-of}
use Rattle.rpki_der.proofs.laws.octet_strings_of_a_length.Goals as goal

pub returns : goal.returns
returns c = reading-octets-of
