use Rattle.std.proofs.Common.{ap}
use Rattle.rpki_certs.specs.Cert.{KeptCertificate}
use Rattle.rpki_sigobj.specs.Signed.{whole_of}
use Rattle.rpki_show.specs.Texts.Certificate.{certificate_text}
use Rattle.rpki_show.specs.Texts.Object.{object_text}
use Rattle.rpki_show.specs.declared.texts.serial.Hexadecimal.TheVariants.{Octets}
use Rattle.rpki_show.proofs.Grown.{grown}
use Rattle.rpki_show.proofs.texts.object.push_whole.Goals as goal

pub returns : goal.returns
returns g c =
    grown c.push_certificate.result c.args.text.now c.push_object.new.text
    c.push_certificate.new.text
    (object_text Octets (g.C.Lines.lines Octets) (whole_of c.args.object.now)) _ _
    c.in_ok-push_object.ensures c.push_certificate.ensures
    (ap (λ (k : KeptCertificate). certificate_text k.certificate) c.cert.ensures)
