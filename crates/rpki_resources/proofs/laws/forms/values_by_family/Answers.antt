use Rattle.rpki_resources.proofs.Addresses.Exact.{ip-part}
use Rattle.rpki_resources.proofs.Claims.{ip-claim-part}
use Rattle.rpki_resources.proofs.Families.ByFamily.{families-reading}
use Rattle.rpki_resources.proofs.laws.forms.values_by_family.Goals as goal

pub returns-clause-sets : goal.returns-clause-sets
returns-clause-sets c = families-reading ip-part

pub returns-clause-claims : goal.returns-clause-claims
returns-clause-claims c = families-reading ip-claim-part
