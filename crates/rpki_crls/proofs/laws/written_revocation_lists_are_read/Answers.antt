use Rattle.rpki_der.specs.declared.mode.Mode.TheVariants.{Der}
use Rattle.rpki_basics.proofs.ReadAgain.{read-again}
use Rattle.rpki_crls.specs.Crl.{CrlForm}
use Rattle.rpki_crls.proofs.laws.written_revocation_lists_are_read.Goals as goal

pub returns : goal.returns
returns c = λ l rest. read-again (CrlForm Der) (λ k. k.list) l.octets rest l
