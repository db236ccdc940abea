-- No CA stands on a chain twice.
use Rattle.rpki_paths.proofs.Chains.{short}
use Rattle.rpki_paths.proofs.laws.paths_are_short.Goals as goal

pub returns : goal.returns
returns c = short
