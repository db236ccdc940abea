use Rattle.std.proofs.Common.{◌∙◌}
use Rattle.rpki_resources.proofs.AsNumbers.Names.{as-ranges}
use Rattle.rpki_resources.proofs.asn.Blocks+Asn.iter.Goals as goal

pub returns-clause-ranges : goal.returns-clause-ranges
returns-clause-ranges c = as-ranges c.as_slice.result.now ∙ c.as_slice.ensures.blocks
