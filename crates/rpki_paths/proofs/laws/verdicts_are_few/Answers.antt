-- The law, as it is proved beside the definitions.
use Rattle.rpki_paths.proofs.Verdicts.{verdicts_are_few}
use Rattle.rpki_paths.proofs.laws.verdicts_are_few.Goals as goal

pub returns : goal.returns
returns c = verdicts_are_few
