-- Where a walk stops, no covered path goes on.
use Rattle.rpki_paths.proofs.Walking.{refused_has_no_path}
use Rattle.rpki_paths.proofs.laws.refused_has_no_path.Goals as goal

pub returns : goal.returns
returns c = refused_has_no_path
