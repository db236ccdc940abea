-- The nearest explicit set of the resources is that of the path.
use Rattle.rpki_paths.proofs.Walking.{resources_tell_takes}
use Rattle.rpki_paths.proofs.laws.resources_tell_takes.Goals as goal

pub returns : goal.returns
returns c = resources_tell_takes
