use Rattle.rpki_der.proofs.Form.Decoders.{decodes-next}
use Rattle.rpki_resources.proofs.Addresses.Exact.{prefix-part}
use Rattle.rpki_resources.proofs.prefix.Prefix.take_from.Goals as goal

pub returns-clause-decodes : goal.returns-clause-decodes
returns-clause-decodes c =
    decodes-next (prefix-part c.args.family)
    (λ x. x) c.args.cons.now c.take_prefix.result c.take_prefix.new.cons
    c.holds_octets.ensures c.take_prefix.ensures.reads
