-- Pairs are gone through one by one.
use Rattle.std.proofs.lemmas.Grind.{common_steps}
use Rattle.std.proofs.lemmas.List.Elements.{filter_map-append}

-- one pair more is kept or passed over
pub ruleset pair_by_pair = (common_steps, filter_map-append)
