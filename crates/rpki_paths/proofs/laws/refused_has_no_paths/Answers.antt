-- Where a walk is refused there is no path, and the paths that are found are the only ones.
use Rattle.rpki_paths.proofs.WalkingEach.{refused_has_no_paths}
use Rattle.rpki_paths.proofs.laws.refused_has_no_paths.Goals as goal

pub returns : goal.returns
returns c = refused_has_no_paths
