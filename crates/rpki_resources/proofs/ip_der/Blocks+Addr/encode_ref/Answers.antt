use Rattle.rpki_resources.proofs.Addresses.Within.{set-six}
use Rattle.rpki_resources.proofs.Addresses.Writing.{ip-written}
use Rattle.rpki_resources.proofs.ip_der.Blocks+Addr.encode_ref.Goals as goal

pub returns-clause-addresses : goal.returns-clause-addresses
returns-clause-addresses c = set-six c.args.self.now c.as_slice.ensures.below

pub returns-clause-written : goal.returns-clause-written
returns-clause-written c = ip-written c.args.family c.args.self.now c.as_slice.ensures.canonical
