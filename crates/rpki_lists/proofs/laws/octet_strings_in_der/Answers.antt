use Rattle.rpki_lists.proofs.OctetsInDer.{octets-in-der}
use Rattle.rpki_lists.proofs.laws.octet_strings_in_der.Goals as goal

pub returns : goal.returns
returns c = octets-in-der
