-- What is accepted is decided by the supplies and the sets; what is not accepted is not granted.
use Rattle.std.proofs.Common.{refl, sym, subst}
use Rattle.std.proofs.lemmas.Result.{IfErr-weaker}
use Rattle.rpki_paths.specs.Accepting.{carried_of, AreAccepted}
use Rattle.rpki_paths.proofs.Accepting.{refusal_is_right}
use Rattle.rpki_paths.proofs.attestation.grant.Goals as goal

pub returns-in-Err-clause-no : goal.returns-in-Err-clause-no
returns-in-Err-clause-no g c = λ other dist all granted.
    refusal_is_right g.X.Candidate.is_good g.X.Candidate.because g.X.Candidate.seen
    g.X.Candidate.of_ca c.args.a.now.certs.now
    (carried_of g.X.Candidate.seen g.X.Candidate.of_ca g.S.CarriedSigner.signer
    g.C.CarriedCert.crl c.args.a.now) c.in-Err.fault granted.paths refl dist other
    c.in-Err.ensures.refused all granted.accepted

pub returns-in-Ok-clause-no : goal.returns-in-Ok-clause-no
returns-in-Ok-clause-no g c =
    let cert = g.C.Certificate.cert in
    let a = carried_of g.X.Candidate.seen g.X.Candidate.of_ca g.S.CarriedSigner.signer
    g.C.CarriedCert.crl c.args.a.now in
    let accepted : AreAccepted cert a c.as_mut_slice.result.now =
    subst (λ l. AreAccepted cert a l) (sym c.as_mut_slice.ensures.value)
    c.in-Ok.ensures.accepted in
    IfErr-weaker c.decide.result _ _ (λ fault no other dist all. no other accepted dist)
    c.decide.ensures.no
