use Rattle.std.proofs.Common.{inr, Ok, Err, refl}
use Rattle.rpki_sigobj.proofs.signed.process.ask_before_numbers.Goals as goal

pub returns-in-Err : goal.returns-in-Err
returns-in-Err g c = (Err c.in-Err.e, c.in-Err.ensures, inr ((λ never. never), refl))

pub returns-in-Ok : goal.returns-in-Ok
returns-in-Ok g c = (Ok tt, c.in-Ok.ensures, c.verify_held.ensures)
