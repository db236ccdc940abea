use Rattle.rpki_der.specs.declared.mode.Mode.TheVariants.{Der}
use Rattle.rpki_basics.proofs.ReadAgain.{read-again}
use Rattle.rpki_crls.specs.Crl.{CrlForm}
use Rattle.rpki_issued_crls.specs.Lists.{crl_octets, made_list}
use Rattle.rpki_issued_crls.proofs.Written.{list-written}
use Rattle.rpki_issued_crls.proofs.laws.written_lists_are_read.Goals as goal

pub returns : goal.returns
returns c = λ u issuer s rest r h name short.
    read-again (CrlForm Der) (λ k. k.list) (crl_octets u issuer s) rest (made_list u issuer s) r
    (list-written u issuer s h name short)
