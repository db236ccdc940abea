-- The CAs that stand on the paths of one choice stand on those of every choice.
use Rattle.rpki_paths.proofs.Grants.{acceptance_is_decided}
use Rattle.rpki_paths.proofs.laws.acceptance_is_decided.Goals as goal

pub returns : goal.returns
returns c = acceptance_is_decided
