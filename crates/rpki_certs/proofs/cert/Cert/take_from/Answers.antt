use Rattle.rpki_der.proofs.Form.Decoders.{decodes-next}
use Rattle.rpki_certs.specs.Cert.{KeptCertificate}
use Rattle.rpki_certs.proofs.Certs.Exact.{cert-part}
use Rattle.rpki_certs.proofs.cert.Cert.take_from.Goals as goal

pub returns-clause-decodes : goal.returns-clause-decodes
returns-clause-decodes c =
    decodes-next cert-part (λ (k : KeptCertificate). k.certificate) c.args.cons.now
    c.take_cert.result c.take_cert.new.cons c.holds_octets.ensures c.take_cert.ensures.reads
