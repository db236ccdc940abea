-- The law, as it is proved beside the definitions.
use Rattle.rpki_paths.proofs.Costs.{matching_is_cheap}
use Rattle.rpki_paths.proofs.laws.matching_is_cheap.Goals as goal

pub returns : goal.returns
returns c = matching_is_cheap
