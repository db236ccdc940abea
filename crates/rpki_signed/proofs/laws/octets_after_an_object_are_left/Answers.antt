use Rattle.rpki_sigobj.proofs.Wholes.After.{object-leaves}
use Rattle.rpki_signed.proofs.laws.octets_after_an_object_are_left.Goals as goal

pub returns-clause-manifests : goal.returns-clause-manifests
returns-clause-manifests c = λ rule mode. object-leaves _ _ mode

pub returns-clause-roas : goal.returns-clause-roas
returns-clause-roas c = λ mode. object-leaves _ _ mode

pub returns-clause-aspas : goal.returns-clause-aspas
returns-clause-aspas c = λ limit mode. object-leaves _ _ mode

pub returns-clause-checklists : goal.returns-clause-checklists
returns-clause-checklists c = λ mode. object-leaves _ _ mode
