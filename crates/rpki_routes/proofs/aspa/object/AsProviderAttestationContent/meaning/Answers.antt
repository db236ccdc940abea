use Rattle.rpki_routes.proofs.aspa.object.AsProviderAttestationContent.meaning.Goals as goal
use Rattle.rpki_routes.proofs.Attestations.Meaning.{aspa-means}

pub returns : goal.returns
returns c = λ x said. aspa-means x
