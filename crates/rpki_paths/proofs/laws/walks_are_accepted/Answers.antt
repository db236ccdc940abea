-- The paths that are found are those of the matching.
use Rattle.rpki_paths.proofs.Granting.{walks_are_accepted}
use Rattle.rpki_paths.proofs.laws.walks_are_accepted.Goals as goal

pub returns : goal.returns
returns g c = walks_are_accepted g.C.Certificate.cert
