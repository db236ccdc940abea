use Rattle.rpki_der.specs.Tags.{SEQUENCE}
use Rattle.rpki_der.proofs.Reading.After.{leaves-after}
use Rattle.rpki_files.specs.Checklist.{ChecklistForm}
use Rattle.rpki_files.proofs.laws.octets_after_a_checklist_are_left.Goals as goal

pub returns : goal.returns
returns c = λ mode. leaves-after mode (ChecklistForm mode) (λ o l h. (SEQUENCE, h.0, h.1))
