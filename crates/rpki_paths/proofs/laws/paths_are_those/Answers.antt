-- Every choice of pairs has the same end-entity certificates, and these have one path each.
use Rattle.rpki_paths.proofs.Grants.{paths_are_those}
use Rattle.rpki_paths.proofs.laws.paths_are_those.Goals as goal

pub returns : goal.returns
returns c = paths_are_those
