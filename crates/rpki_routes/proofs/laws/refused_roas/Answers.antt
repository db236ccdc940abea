use Rattle.rpki_routes.proofs.Origins.Built.{not-said}
use Rattle.rpki_routes.proofs.laws.refused_roas.Goals as goal

pub returns : goal.returns
returns c = not-said
