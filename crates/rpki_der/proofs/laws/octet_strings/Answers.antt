use Rattle.rpki_der.proofs.Reading.Kinds.{reading-octets}
use Rattle.rpki_der.proofs.laws.octet_strings.Goals as goal

pub returns : goal.returns
returns c = reading-octets
