use Rattle.rpki_show.proofs.Serials.{serial-printed}
use Rattle.rpki_show.proofs.laws.serials_are_octets.Goals as goal

pub returns : goal.returns
returns c = serial-printed
