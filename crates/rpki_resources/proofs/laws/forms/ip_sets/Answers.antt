use Rattle.rpki_resources.proofs.Addresses.Writing.{ip-reading}
use Rattle.rpki_resources.proofs.laws.forms.ip_sets.Goals as goal

pub returns : goal.returns
returns c = ip-reading
