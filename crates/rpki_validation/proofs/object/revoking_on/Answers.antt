use Rattle.std.proofs.Common.{List, MatchOption, subst}
use Rattle.rpki_crls.specs.Crl.{KeptCrl}
use Rattle.rpki_validation.specs.Revoked.{IsRevokedAt, IsUnrevoked}
use Rattle.rpki_validation.proofs.object.revoking_on.Goals as goal

pub returns : goal.returns
returns c =
    let issuer = c.args.grounds.now.issuer.cert.certificate in
    let cert = c.args.cert.now.cert.certificate in
    subst (λ (ls : List KeptCrl). MatchOption c.revoking_under.result (IsUnrevoked ls issuer cert)
    (λ place. IsRevokedAt ls issuer cert place)) c.deref.ensures.value c.revoking_under.ensures
