use Rattle.std.proofs.Common.{string_bytes}
use Rattle.rpki_verdicts.proofs.Pushing.{kept-pushes}
use Rattle.rpki_verdicts.proofs.list.push_issued.Goals as goal

pub returns-in-Ok : goal.returns-in-Ok
returns-in-Ok g c = kept-pushes (g.C.Crypto.is_signed c.args.crypto.now)
    (λ x. c.args.issuer.now.certificate.tbs.key) c.args.octets.now (string_bytes c.args.text.now)
    (string_bytes c.push_cert-pushed.new.text) c.in-Ok.cert
    c.subject_public_key_info.result.now c.push_cert-pushed.result c.kept.result c.in-Ok.ensures.decodes
    c.subject_public_key_info.ensures c.push_cert-pushed.ensures c.kept.ensures
