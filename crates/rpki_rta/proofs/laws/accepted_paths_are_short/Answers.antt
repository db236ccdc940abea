-- No CA stands on a path twice.
use Rattle.rpki_rta.proofs.Shortness.{accepted_paths_are_short}
use Rattle.rpki_rta.proofs.laws.accepted_paths_are_short.Goals as goal

pub returns : goal.returns
returns c = accepted_paths_are_short
