use Rattle.std.proofs.Common.{inl, inr, refl}
use Rattle.rpki_validation.proofs.object.found_in.Goals as goal

pub returns-in-Err : goal.returns-in-Err
returns-in-Err g c = inl (c.in-Err.refusal, c.in-Err.ensures, refl)

pub returns-in-Ok : goal.returns-in-Ok
returns-in-Ok g c = inr (record {
  grounds = c.in-Ok.grounds;
  are = c.in-Ok.ensures;
  found = c.found_on-found.ensures;
})
