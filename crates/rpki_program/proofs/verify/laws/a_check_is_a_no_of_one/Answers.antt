use Rattle.rpki_program.proofs.Yes.{no-of-check}
use Rattle.rpki_program.proofs.verify.laws.a_check_is_a_no_of_one.Goals as goal

pub returns : goal.returns
returns c = no-of-check
