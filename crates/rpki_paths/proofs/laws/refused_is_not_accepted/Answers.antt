-- No choice of pairs has other paths.
use Rattle.rpki_paths.proofs.Granting.{refused_is_not_accepted}
use Rattle.rpki_paths.proofs.laws.refused_is_not_accepted.Goals as goal

pub returns : goal.returns
returns c = refused_is_not_accepted
