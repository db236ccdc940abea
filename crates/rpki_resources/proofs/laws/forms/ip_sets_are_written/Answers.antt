use Rattle.rpki_resources.proofs.Addresses.Writing.{ip-written, ip-read}
use Rattle.rpki_resources.proofs.laws.forms.ip_sets_are_written.Goals as goal

pub returns-clause-written : goal.returns-clause-written
returns-clause-written c = ip-written

pub returns-clause-read : goal.returns-clause-read
returns-clause-read c = ip-read
