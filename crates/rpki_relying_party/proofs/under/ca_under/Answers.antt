use Rattle.std.proofs.Common.{Ok, Err, subst}
use Rattle.rpki_certs.specs.Cert.{KeptCertificate}
use Rattle.rpki_relying_party.specs.Under.{SaysOf}
use Rattle.rpki_relying_party.proofs.Revoking.{invalid, valid, revoked}
use Rattle.rpki_relying_party.proofs.under.ca_under.Goals as goal

pub returns-in-Err : goal.returns-in-Err
returns-in-Err g c =
    invalid (g.C.Crypto.is_signed c.args.crypto.now) c.args.now c.args.issuer.now
    c.args.list.now.list c.args.octets c.in-Err.error c.in-Err.ensures

pub returns-in-Err-verify_unrevoked : goal.returns-in-Err-verify_unrevoked
returns-in-Err-verify_unrevoked g c =
    revoked (g.C.Crypto.is_signed c.args.crypto.now) c.args.now c.args.issuer.now
    c.args.list.now.list c.args.octets c.in-Ok.valid c.in-Ok.ensures
    c.in-Err-verify_unrevoked.error
    (subst (λ (k : KeptCertificate). SaysOf c.args.list.now.list k
    (Err c.in-Err-verify_unrevoked.error)) c.cert.ensures c.in-Err-verify_unrevoked.ensures)

pub returns-in-Ok-verify_unrevoked : goal.returns-in-Ok-verify_unrevoked
returns-in-Ok-verify_unrevoked g c =
    valid (g.C.Crypto.is_signed c.args.crypto.now) c.args.now c.args.issuer.now
    c.args.list.now.list c.args.octets c.in-Ok.valid c.in-Ok.ensures
    (subst (λ (k : KeptCertificate). SaysOf c.args.list.now.list k (Ok tt)) c.cert.ensures
    c.in-Ok-verify_unrevoked.ensures)
