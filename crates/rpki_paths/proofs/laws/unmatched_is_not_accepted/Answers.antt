-- The law, as it is proved beside the definitions.
use Rattle.rpki_paths.proofs.Mapping.{unmatched_is_not_accepted}
use Rattle.rpki_paths.proofs.laws.unmatched_is_not_accepted.Goals as goal

pub returns : goal.returns
returns c = unmatched_is_not_accepted
