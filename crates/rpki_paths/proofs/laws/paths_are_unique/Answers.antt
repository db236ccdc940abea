-- A chain of issuers is the only one.
use Rattle.rpki_paths.proofs.Chains.{unique}
use Rattle.rpki_paths.proofs.laws.paths_are_unique.Goals as goal

pub returns : goal.returns
returns c = unique
