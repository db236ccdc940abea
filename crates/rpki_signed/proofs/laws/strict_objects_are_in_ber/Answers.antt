use Rattle.rpki_sigobj.proofs.Wholes.InBer.{in-ber}
use Rattle.rpki_signed.proofs.laws.strict_objects_are_in_ber.Goals as goal

pub returns-clause-manifests : goal.returns-clause-manifests
returns-clause-manifests c = λ rule. in-ber _ _

pub returns-clause-roas : goal.returns-clause-roas
returns-clause-roas c = in-ber _ _

pub returns-clause-aspas : goal.returns-clause-aspas
returns-clause-aspas c = λ limit. in-ber _ _

pub returns-clause-checklists : goal.returns-clause-checklists
returns-clause-checklists c = in-ber _ _
