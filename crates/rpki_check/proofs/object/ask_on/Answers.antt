use Rattle.std.proofs.Common.{List, inr, refl, subst}
use Rattle.rpki_certs.specs.Cert.{KeptCertificate}
use Rattle.rpki_crls.specs.Crl.{KeptCrl}
use Rattle.rpki_validation.specs.Revoked.{IsRevokedAt, IsUnrevoked}
use Rattle.rpki_validation.proofs.Steps.{revoked-not}
use Rattle.rpki_check.proofs.object.ask_on.Goals as goal

pub returns-in-None : goal.returns-in-None
returns-in-None c =
    let k = c.args.cert.now.certificate in (
      subst (λ (ls : List KeptCrl). IsUnrevoked ls c.args.grounds.now.issuer.cert.certificate k)
          c.deref.ensures.value
          (subst (λ (i : KeptCertificate). IsUnrevoked c.deref.result.now i.certificate k)
          c.cert.ensures c.in-None.ensures),
      tt,
    )

pub returns-in-Some : goal.returns-in-Some
returns-in-Some c =
    let g = c.args.grounds.now in
    let k = c.args.cert.now.certificate in
    inr (
      λ unrevoked. revoked-not g.lists.items g.issuer.cert.certificate k c.in-Some.field-0
          (subst (λ (ls : List KeptCrl). IsRevokedAt ls g.issuer.cert.certificate k c.in-Some.field-0)
          c.deref.ensures.value
          (subst (λ (i : KeptCertificate). IsRevokedAt c.deref.result.now i.certificate k
          c.in-Some.field-0) c.cert.ensures c.in-Some.ensures)) unrevoked,
      refl,
    )
