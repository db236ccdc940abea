use Rattle.std.proofs.Common.{◌∙◌}
use Rattle.rpki_resources.proofs.Addresses.Names.{ip-ranges}
use Rattle.rpki_resources.proofs.ip.Blocks+Addr.iter.Goals as goal

pub returns-clause-ranges : goal.returns-clause-ranges
returns-clause-ranges c = ip-ranges c.as_slice.result.now ∙ c.as_slice.ensures.blocks
