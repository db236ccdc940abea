use Rattle.std.proofs.Common.{◌≡◌, List, MatchOption, rules, subst}
use Rattle.rpki_certs.specs.Cert.{Certificate, KeptCertificate}
use Rattle.rpki_crls.specs.Crl.{KeptCrl}
use Rattle.rpki_validation.specs.Attestation.{AreUnrevokedOf, IsOneRevoked}
use Rattle.rpki_validation.proofs.attestation.revoking_any.Goals as goal

pub returns : goal.returns
returns c =
    let g = c.args.grounds.now in
    let Says : List KeptCrl → Certificate → List KeptCertificate → Type 0 = λ ls issuer ks.
    MatchOption c.revoking_one.result (AreUnrevokedOf ls issuer ks)
    (λ place. IsOneRevoked ls issuer ks place) in
    let certs : c.certificates.result.now ≡ c.args.rta.now.signed.certs = search rules in
    subst (λ (ks : List KeptCertificate). Says g.lists.items g.issuer.cert.certificate ks) certs
    (subst (λ (ls : List KeptCrl). Says ls g.issuer.cert.certificate c.certificates.result.now)
    c.deref.ensures.value
    (subst (λ (k : KeptCertificate). Says c.deref.result.now k.certificate
    c.certificates.result.now) c.cert.ensures c.revoking_one.ensures))
