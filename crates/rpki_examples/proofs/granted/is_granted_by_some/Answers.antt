-- What is accepted is decided by the supplies and the sets.
use Rattle.std.proofs.Common.{sym, subst}
use Rattle.std.proofs.lemmas.Result.{IfOk-weaker}
use Rattle.rpki_paths.specs.Accepting.{carried_of, AreAccepted}
use Rattle.rpki_examples.proofs.granted.is_granted_by_some.Goals as goal

pub returns-in-Ok-clause-granted : goal.returns-in-Ok-clause-granted
returns-in-Ok-clause-granted g c =
    let cert = g.C.Certificate.cert in
    let a = carried_of g.X.Candidate.seen g.X.Candidate.of_ca g.S.CarriedSigner.signer
    g.C.CarriedCert.crl c.args.a.now in
    let accepted : AreAccepted cert a c.as_mut_slice.result.now =
    subst (λ l. AreAccepted cert a l) (sym c.as_mut_slice.ensures.value)
    c.in-Ok.ensures.accepted in
    IfOk-weaker c.decide_after-is_granted.result _ _ (λ answer granted yes. granted yes accepted)
    c.decide_after-is_granted.ensures
