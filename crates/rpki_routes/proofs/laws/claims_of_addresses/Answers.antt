use Rattle.rpki_routes.proofs.Origins.Built.{claim-has, claim-within}
use Rattle.rpki_routes.proofs.Origins.Signed.{claim-allowed}
use Rattle.rpki_routes.proofs.laws.claims_of_addresses.Goals as goal

pub returns-clause-covered : goal.returns-clause-covered
returns-clause-covered c = claim-has

pub returns-clause-within : goal.returns-clause-within
returns-clause-within c = claim-within

pub returns-clause-allowed : goal.returns-clause-allowed
returns-clause-allowed c = claim-allowed
