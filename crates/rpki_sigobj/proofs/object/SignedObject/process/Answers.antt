use Rattle.std.proofs.Common.{◌∙◌, inl, inr}
use Rattle.std.proofs.lemmas.Result.{err_from_is_err_and}
use Rattle.rpki_sigobj.specs.Object.{cert_of}
use Rattle.rpki_sigobj.proofs.Asked.{cert-under}
use Rattle.rpki_sigobj.proofs.object.SignedObject.process.Goals as goal

pub returns-in_err-cert : goal.returns-in_err-cert
returns-in_err-cert g c =
    let p = err_from_is_err_and c.from_residual.result c.from_residual.ensures.1 in
    let refused = c.in_err-cert.ensures in
    rw (p.1, p.2) (elim refused [ inl h ↦ inl h | inr h ↦ inr (inl h) ])

pub asked-requires : goal.asked-requires
asked-requires g c =
    let held = c.in_ok-cert.ensures in
    λ p e. c.requires held.0 p
    (e ∙ cert-under (cert_of c.args.self) c.args.issuer.now _ held.1)

pub returns-in-Err : goal.returns-in-Err
returns-in-Err g c =
    let held = c.in_ok-cert.ensures in
    let said = c.in-Err.ensures in
    inr (inr (
      held.0,
      inl (
        said.0,
        said.1,
        said.2 ∙ cert-under (cert_of c.args.self) c.args.issuer.now _ held.1,
      ),
    ))

pub returns-in-Ok-asked : goal.returns-in-Ok-asked
returns-in-Ok-asked g c =
    let held = c.in_ok-cert.ensures in
    let said = c.in-Ok-asked.ensures in (
      held.0,
      (
        (
          said.0,
          said.1,
          said.2 ∙ cert-under (cert_of c.args.self) c.args.issuer.now _ held.1,
        ),
        (tt, (held.1, c.in-Ok.ensures.cases ∙ c.content.ensures)),
      ),
    )
