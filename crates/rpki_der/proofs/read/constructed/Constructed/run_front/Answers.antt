use Rattle.std.proofs.Common.{Ok, refl, rules}
use Rattle.rpki_der.proofs.read.constructed.Constructed.run_front.Goals as goal

pub returns-in-Some : goal.returns-in-Some
returns-in-Some g c = (
  Ok c.in-Ok.t,
  c.op.new.arg2,
  search rules,
  rw (← c.take_error.ensures.result, c.in-Some.is) refl,
  tt,
  rw c.take_error.ensures.new refl,
)
