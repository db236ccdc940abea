use Rattle.rpki_routes.proofs.laws.covered_aspas.Goals as goal
use Rattle.rpki_routes.proofs.Attestations.Meaning.{aspa-covered}

pub returns : goal.returns
returns c = aspa-covered
