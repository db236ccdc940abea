-- What is kept after the supplies tells the numbers of the paths.
use Rattle.rpki_rta.proofs.Lawful.{end_after_supplies}
use Rattle.rpki_rta.proofs.laws.end_after_supplies.Goals as goal

pub returns : goal.returns
returns g c = end_after_supplies g.C.Crypto.is_signed g.C.Crypto.digest_of
