use Rattle.rpki_der.proofs.Form.Decoders.{decodes-next}
use Rattle.rpki_resources.proofs.Addresses.Exact.{ip-part}
use Rattle.rpki_resources.proofs.ip_der.Blocks+Addr.take_from.Goals as goal

pub returns-clause-decodes : goal.returns-clause-decodes
returns-clause-decodes c =
    decodes-next (ip-part c.args.family)
    (λ x. x) c.args.cons.now c.take_set.result c.take_set.new.cons
    c.holds_octets.ensures c.take_set.ensures.reads
