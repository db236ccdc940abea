use Rattle.std.proofs.Common.{inl, inr, refl}
use Rattle.rpki_check.proofs.attestation.granted_in.Goals as goal

pub returns-in-Err : goal.returns-in-Err
returns-in-Err c = inl (c.in-Err.refusal, c.in-Err.ensures, refl)

pub returns-in-Ok : goal.returns-in-Ok
returns-in-Ok c = inr (record {
  grounds = c.in-Ok.grounds;
  are = c.in-Ok.ensures;
  found = c.granted_on-found.ensures;
})
