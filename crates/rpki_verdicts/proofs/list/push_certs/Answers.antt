use Rattle.rpki_verdicts.proofs.Pushing.{anchor-refused, certs-pushed}
use Rattle.rpki_verdicts.proofs.list.push_certs.Goals as goal

pub returns-in-Err : goal.returns-in-Err
returns-in-Err g c = anchor-refused c.in-Err.error c.args.anchor.now _ c.in-Err.ensures

pub returns-in-Ok : goal.returns-in-Ok
returns-in-Ok g c = certs-pushed _ _ _ _ _ c.in-Ok.first c.in-Ok.ensures _ _ c.push_chain.ensures
