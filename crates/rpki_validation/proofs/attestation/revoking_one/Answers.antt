use Rattle.std.proofs.Common.{List, subst, sym}
use Rattle.std.proofs.lemmas.List.{take_all}
use Rattle.std.proofs.lemmas.List.Elements.{All-more}
use Rattle.rpki_certs.specs.Cert.{KeptCertificate}
use Rattle.rpki_validation.specs.Attestation.{AreUnrevokedOf, IsUnrevokedOf}
use Rattle.rpki_validation.proofs.attestation.revoking_one.Goals as goal

pub returns-in-Some : goal.returns-in-Some
returns-in-Some c = record {
  index = c.loop-cert.cert-index;
  cert = c.cert-item.result;
  placed = record { there = c.loop-cert-test.true; is = sym c.cert-item.is };
  of_issuer = c.in-Some.ensures.0;
  revoked = c.in-Some.ensures.1;
}

pub loop-cert-preserved : goal.loop-cert-preserved
loop-cert-preserved c =
    let P : KeptCertificate → Type 0 = λ k.
    IsUnrevokedOf c.args.lists.now c.args.issuer.now.certificate k.certificate in
    All-more P c.args.certs.now c.loop-cert.cert-index c.cert-item.result c.loop-cert-test.true
    c.loop-cert.invariant (subst P c.cert-item.is c.in-None.ensures)

pub returns : goal.returns
returns c =
    subst (λ (ks : List KeptCertificate). AreUnrevokedOf c.args.lists.now
    c.args.issuer.now.certificate ks)
    (take_all c.loop-cert.cert-index c.args.certs.now c.loop-cert-test.false)
    c.loop-cert.invariant
