use Rattle.std.proofs.Common.{Ok, Err, refl, rules}
use Rattle.rpki_der.proofs.read.constructed.Constructed.run.Goals as goal

pub returns-in-Err : goal.returns-in-Err
returns-in-Err g c = (Err c.in-Err.e, c.op.new.arg2, search rules, refl)

pub returns-in-None : goal.returns-in-None
returns-in-None g c =
    (Ok c.in-Ok.t, c.op.new.arg2, search rules, rw (← c.unfinished.ensures, c.in-None.is) refl)

pub returns-in-Some : goal.returns-in-Some
returns-in-Some g c =
    (Ok c.in-Ok.t, c.op.new.arg2, search rules, rw (← c.unfinished.ensures, c.in-Some.is) refl)
