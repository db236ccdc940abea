-- A path that is declined is anchored by none.
use Rattle.rpki_rta.proofs.Lawful.{refused_supply_is_right}
use Rattle.rpki_rta.proofs.laws.refused_supply_is_right.Goals as goal

pub returns : goal.returns
returns g c = refused_supply_is_right g.C.Crypto.is_signed g.C.Crypto.digest_of
