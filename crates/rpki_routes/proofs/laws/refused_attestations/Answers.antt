use Rattle.rpki_routes.proofs.Attestations.Built.{not-said}
use Rattle.rpki_routes.proofs.laws.refused_attestations.Goals as goal

pub returns : goal.returns
returns c = not-said
