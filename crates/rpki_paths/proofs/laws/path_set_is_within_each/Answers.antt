-- What lies in all sets lies in each.
use Rattle.rpki_paths.proofs.Meets.{path_set-within}
use Rattle.rpki_paths.proofs.laws.path_set_is_within_each.Goals as goal

pub returns : goal.returns
returns c = path_set-within
