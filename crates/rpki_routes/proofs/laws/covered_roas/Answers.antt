use Rattle.rpki_routes.proofs.laws.covered_roas.Goals as goal
use Rattle.rpki_routes.proofs.Origins.Meaning.{roa-covered}

pub returns : goal.returns
returns c = roa-covered
