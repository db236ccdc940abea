use Rattle.rpki_routes.proofs.Ascending.{placed}
use Rattle.rpki_routes.proofs.aspa.builder.AspaBuilder.place_for.Goals as goal

pub returns-in-Err-clause-place : goal.returns-in-Err-clause-place
returns-in-Err-clause-place c =
    rw (← c.self.view_is, ← c.deref.ensures.value)
    (placed c.deref.result.now c.args.number c.in-Err.place
    (rw c.deref.ensures.value c.self.invariant) c.in-Err.ensures.position)
