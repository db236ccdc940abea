-- The same paths stand for the same numbers.
use Rattle.rpki_paths.proofs.Grants.{grant_is_decided}
use Rattle.rpki_paths.proofs.laws.grant_is_decided.Goals as goal

pub returns : goal.returns
returns c = grant_is_decided
