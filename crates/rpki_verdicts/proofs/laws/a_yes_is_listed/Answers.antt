use Rattle.rpki_verdicts.proofs.Listed.{listed-decided}
use Rattle.rpki_verdicts.proofs.laws.a_yes_is_listed.Goals as goal

pub returns : goal.returns
returns c = listed-decided
