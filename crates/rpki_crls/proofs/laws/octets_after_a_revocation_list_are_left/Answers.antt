use Rattle.rpki_der.specs.Tags.{SEQUENCE}
use Rattle.rpki_der.proofs.Reading.After.{leaves-after}
use Rattle.rpki_crls.specs.Crl.{CrlForm}
use Rattle.rpki_crls.proofs.laws.octets_after_a_revocation_list_are_left.Goals as goal

pub returns : goal.returns
returns c = λ mode. leaves-after mode (CrlForm mode) (λ o l h. (SEQUENCE, h.1.0, h.1.1))
