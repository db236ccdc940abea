use Rattle.rpki_der.proofs.Form.Decoders.{decodes-next, decodes-if-next}
use Rattle.rpki_der.proofs.laws.decoders.taken_parts.Goals as goal

pub returns-clause-next : goal.returns-clause-next
returns-clause-next g c = λ first part old result new bytes h.
    decodes-next part (λ t. t) old result new bytes h

pub returns-clause-if_next : goal.returns-clause-if_next
returns-clause-if_next g c = λ tag part old result new bytes h.
    decodes-if-next tag part (λ t. t) old result new bytes h
