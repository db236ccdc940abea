use Rattle.rpki_routes.proofs.roa.object.RouteOriginAttestationContent.meaning.Goals as goal
use Rattle.rpki_routes.proofs.Origins.Meaning.{roa-means}

pub returns : goal.returns
returns c = roa-means
