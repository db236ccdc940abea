use Rattle.rpki_der.specs.declared.mode.Mode.TheVariants.{Der}
use Rattle.rpki_der.proofs.Form.Decoders.{decodes}
use Rattle.rpki_certs.specs.Cert.{KeptCertificate}
use Rattle.rpki_certs.proofs.Certs.Exact.{cert-part}
use Rattle.rpki_certs.proofs.cert.Cert.decode.Goals as goal

pub returns-clause-decodes : goal.returns-clause-decodes
returns-clause-decodes c =
    decodes cert-part Der c.args.source (λ (k : KeptCertificate). k.certificate)
    c.read_front.result (rw c.as_slice.ensures at c.slices_hold_octets.ensures.octets)
    c.read_front.ensures.found
