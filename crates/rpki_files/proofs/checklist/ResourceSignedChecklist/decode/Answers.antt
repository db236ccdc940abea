-- What is decoded is the content at the front.
use Rattle.rpki_der.specs.declared.mode.Mode.TheVariants.{Der}
use Rattle.rpki_der.proofs.Form.Decoders.{decodes}
use Rattle.rpki_files.specs.Checklist.{Checklist}
use Rattle.rpki_files.proofs.Checklists.Exact.{checklist-part}
use Rattle.rpki_files.proofs.checklist.ResourceSignedChecklist.decode.Goals as goal

pub returns : goal.returns
returns c =
    decodes checklist-part Der c.args.source (λ (l : Checklist). l) c.read_front.result
    (rw c.as_slice.ensures at c.slices_hold_octets.ensures.octets) c.read_front.ensures
