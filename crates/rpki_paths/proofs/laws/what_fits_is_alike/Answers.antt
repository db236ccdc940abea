-- Equal identifiers have equal keys.
use Rattle.rpki_paths.proofs.Matches.{what_fits_is_alike}
use Rattle.rpki_paths.proofs.laws.what_fits_is_alike.Goals as goal

pub returns : goal.returns
returns c = what_fits_is_alike
