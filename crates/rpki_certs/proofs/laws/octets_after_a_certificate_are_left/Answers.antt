use Rattle.rpki_der.specs.Tags.{SEQUENCE}
use Rattle.rpki_der.proofs.Reading.After.{leaves-after}
use Rattle.rpki_certs.specs.Cert.{CertForm}
use Rattle.rpki_certs.proofs.laws.octets_after_a_certificate_are_left.Goals as goal

pub returns : goal.returns
returns c = λ mode. leaves-after mode (CertForm mode) (λ o d h. (SEQUENCE, h.1.0, h.1.1))
