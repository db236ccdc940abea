use Rattle.rpki_routes.proofs.Origins.Networks.{network-found}
use Rattle.rpki_routes.proofs.roa.bits.take_prefix.Goals as goal

pub returns : goal.returns
returns c = network-found _ _ _ c.in_ok-octets.ensures.found _ c.from_bits.ensures
