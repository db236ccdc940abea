use Rattle.rpki_multi.proofs.Multis.Exact.{multi-part}
use Rattle.rpki_multi.proofs.laws.attestations_in_ber.Goals as goal

pub returns : goal.returns
returns c octets r h = (multi-part.relaxed octets r.signed h.0, h.1)
