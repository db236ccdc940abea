use Rattle.rpki_der.specs.declared.mode.Mode.TheVariants.{Der}
use Rattle.rpki_basics.proofs.ReadAgain.{read-again}
use Rattle.rpki_certs.specs.Cert.{CertForm}
use Rattle.rpki_certs.proofs.laws.written_certificates_are_read.Goals as goal

pub returns : goal.returns
returns c = λ d rest. read-again (CertForm Der) (λ k. k.certificate) d.octets rest d
