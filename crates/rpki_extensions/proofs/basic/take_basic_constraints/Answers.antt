use Rattle.rpki_der.proofs.Form.Decoders.{decodes-next}
use Rattle.rpki_extensions.proofs.Values.{basic-constraints-part}
use Rattle.rpki_extensions.proofs.basic.take_basic_constraints.Goals as goal

pub returns-clause-decodes : goal.returns-clause-decodes
returns-clause-decodes c =
    decodes-next basic-constraints-part (λ x. x)
    c.args.cons.now c.take_constraints.result c.take_constraints.new.cons
    c.holds_octets.ensures c.take_constraints.ensures.reads
