use Rattle.rpki_der.proofs.Form.Decoders.{decodes-next}
use Rattle.rpki_files.specs.Checklist.{Checklist}
use Rattle.rpki_files.proofs.Checklists.Exact.{checklist-part}
use Rattle.rpki_files.proofs.checklist.ResourceSignedChecklist.take_from.Goals as goal

pub returns-clause-decodes : goal.returns-clause-decodes
returns-clause-decodes c =
    decodes-next checklist-part (λ (l : Checklist). l) c.args.cons.now c.take_checklist.result
    c.take_checklist.new.cons c.holds_octets.ensures c.take_checklist.ensures.reads
