use Rattle.rpki_der.proofs.Form.Decoders.{decodes-next}
use Rattle.rpki_extensions.proofs.Uris.Exact.{subject-access-part}
use Rattle.rpki_extensions.proofs.access.take_subject_info_access.Goals as goal

pub returns-clause-decodes : goal.returns-clause-decodes
returns-clause-decodes c =
    decodes-next subject-access-part (λ x. x) c.args.cons.now c.take_accesses.result
    c.take_accesses.new.cons c.holds_octets.ensures c.take_accesses.ensures.reads
