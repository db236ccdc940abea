use Rattle.rpki_program.proofs.Yes.{yes-of-check}
use Rattle.rpki_program.proofs.verify.laws.a_check_is_a_yes_of_each.Goals as goal

pub returns : goal.returns
returns c = yes-of-check
