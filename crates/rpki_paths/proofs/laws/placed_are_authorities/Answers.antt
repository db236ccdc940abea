-- The law, as it is proved beside the definitions.
use Rattle.rpki_paths.proofs.Mapping.{placed_are_authorities}
use Rattle.rpki_paths.proofs.laws.placed_are_authorities.Goals as goal

pub returns : goal.returns
returns g c = placed_are_authorities g.C.Certificate.cert g.C.CarriedCert.crl
