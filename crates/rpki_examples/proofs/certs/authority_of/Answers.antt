use Rattle.std.proofs.Common.{◌≡◌}
use Rattle.rpki_certs.specs.Validate.{Validated, AreHeld, IsAnchorOf, IsGoodAnchor, IsGoodUnder}
use Rattle.rpki_examples.proofs.Answered.{of-both}
use Rattle.rpki_examples.proofs.certs.authority_of.Goals as goal

pub returns-in-Ok : goal.returns-in-Ok
returns-in-Ok g c =
    let verdict = g.C.Crypto.is_signed c.args.crypto.now in
    let a = c.in-Ok.anchor in
    let now = c.args.now in
    let valid = c.valid_anchors.ensures verdict c.args.anchor.certificate now in
    of-both (λ _. IsGoodUnder verdict c.args.cert.certificate a now)
    (λ (v : Validated). (v.cert ≡ c.args.cert) × AreHeld a.sets v.sets)
    (λ (v : Validated). (issuer : Validated) × IsAnchorOf c.args.anchor issuer
    × IsGoodAnchor verdict c.args.anchor.certificate now
    × IsGoodUnder verdict c.args.cert.certificate issuer now × (v.cert ≡ c.args.cert)
    × AreHeld issuer.sets v.sets)
    c.authority_under-made.result
    (λ v good held. (
      a,
      c.in-Ok.ensures.1,
      (valid.0 c.in-Ok.ensures.0).1,
      good,
      held.0,
      held.1,
    ))
    c.authority_under-made.ensures.good c.authority_under-made.ensures.held
