-- What the paths earn is decided.
use Rattle.rpki_rta.proofs.Lawful.{no_is_right}
use Rattle.rpki_rta.proofs.laws.no_is_right.Goals as goal

pub returns : goal.returns
returns g c = no_is_right g.C.Crypto.is_signed g.C.Crypto.digest_of
