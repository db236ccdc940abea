-- The sets of the supply are one more claim.
use Rattle.rpki_paths.proofs.Meets.{anchored-set}
use Rattle.rpki_paths.proofs.laws.anchored_is_path_set.Goals as goal

pub returns : goal.returns
returns c = anchored-set
