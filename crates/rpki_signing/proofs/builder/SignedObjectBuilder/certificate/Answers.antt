use Rattle.std.proofs.Common.{◌≡◌, subst}
use Rattle.std.specs.Prelude.{IfOk}
use Rattle.rpki_certs.specs.Cert.{KeptCertificate}
use Rattle.rpki_issued.specs.Tbs.{Unsigned, tbs_of}
use Rattle.rpki_issued.specs.Written.{made_certificate, tbs_octets}
use Rattle.rpki_signing.proofs.builder.SignedObjectBuilder.certificate.Goals as goal

pub returns-in-Ok-clause-made : goal.returns-in-Ok-clause-made
returns-in-Ok-clause-made g c =
    subst (λ (u : Unsigned). IfOk c.into_cert.result (λ (k : KeptCertificate).
    k.certificate ≡ made_certificate (tbs_of u) k.certificate.signature))
    c.unsigned.ensures c.into_cert.ensures.made

pub returns-in-Ok-clause-signed : goal.returns-in-Ok-clause-signed
returns-in-Ok-clause-signed g c =
    subst (λ (u : Unsigned). IfOk c.into_cert.result (λ (k : KeptCertificate).
    g.S.Signer.may_sign c.args.signer.now
    (g.S.Signer.key_of c.args.signer.now c.args.issuer_key.now) (tbs_octets (tbs_of u))
    k.certificate.signature))
    c.unsigned.ensures c.into_cert.ensures.signed
