use Rattle.std.proofs.Common.{Option}
use Rattle.std.specs.Prelude.{option_map}
use Rattle.rpki_der.specs.Tags.{SEQUENCE}
use Rattle.rpki_der.proofs.Form.Decoders.{decodes-if-next}
use Rattle.rpki_certs.specs.Cert.{KeptCertificate}
use Rattle.rpki_certs.proofs.Certs.Exact.{cert-part}
use Rattle.rpki_certs.proofs.cert.Cert.take_opt_from.Goals as goal

pub returns-clause-decodes : goal.returns-clause-decodes
returns-clause-decodes c =
    decodes-if-next SEQUENCE cert-part
    (λ (o : Option KeptCertificate). option_map (λ (k : KeptCertificate). k.certificate) o)
    c.args.cons.now c.take_opt_cert.result c.take_opt_cert.new.cons c.holds_octets.ensures
    c.take_opt_cert.ensures.reads
