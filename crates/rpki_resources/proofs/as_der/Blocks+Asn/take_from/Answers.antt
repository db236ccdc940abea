use Rattle.rpki_der.proofs.Form.Decoders.{decodes-next}
use Rattle.rpki_resources.proofs.AsNumbers.Exact.{as-part}
use Rattle.rpki_resources.proofs.as_der.Blocks+Asn.take_from.Goals as goal

pub returns-clause-decodes : goal.returns-clause-decodes
returns-clause-decodes c =
    decodes-next as-part (λ x. x) c.args.cons.now c.take_set.result c.take_set.new.cons
    c.holds_octets.ensures c.take_set.ensures.reads
