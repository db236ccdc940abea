-- What is kept after the supplies decides.
use Rattle.rpki_rta.proofs.Lawful.{yes_after_supplies}
use Rattle.rpki_rta.proofs.laws.yes_after_supplies.Goals as goal

pub returns : goal.returns
returns g c = yes_after_supplies g.C.Crypto.is_signed g.C.Crypto.digest_of
