use Rattle.rpki_resources.proofs.Claims.{as-claims, ip-claims, identifiers}
use Rattle.rpki_resources.proofs.laws.forms.claims.Goals as goal

pub returns-clause-numbers : goal.returns-clause-numbers
returns-clause-numbers c = as-claims

pub returns-clause-addresses : goal.returns-clause-addresses
returns-clause-addresses c = ip-claims

pub returns-clause-identifiers : goal.returns-clause-identifiers
returns-clause-identifiers c = identifiers
