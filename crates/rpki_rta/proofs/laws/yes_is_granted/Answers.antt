-- What is kept under the supplies decides.
use Rattle.rpki_rta.proofs.Lawful.{yes_is_granted}
use Rattle.rpki_rta.proofs.laws.yes_is_granted.Goals as goal

pub returns : goal.returns
returns g c = yes_is_granted g.C.Crypto.is_signed g.C.Crypto.digest_of
