use Rattle.rpki_der.proofs.Form.Decoders.{decodes-next}
use Rattle.rpki_extensions.proofs.Values.{subject-key-part}
use Rattle.rpki_extensions.proofs.key_identifiers.take_subject_key_identifier.Goals as goal

pub returns-clause-decodes : goal.returns-clause-decodes
returns-clause-decodes c =
    decodes-next subject-key-part (λ x. x)
    c.args.cons.now c.take_subject.result c.take_subject.new.cons
    c.holds_octets.ensures c.take_subject.ensures.reads
