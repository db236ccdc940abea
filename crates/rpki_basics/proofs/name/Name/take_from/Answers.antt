use Rattle.rpki_der.proofs.Form.Decoders.{decodes-next}
use Rattle.rpki_basics.proofs.Names.Exact.{name-part}
use Rattle.rpki_basics.proofs.name.Name.take_from.Goals as goal

pub returns-clause-decodes : goal.returns-clause-decodes
returns-clause-decodes c =
    decodes-next name-part (λ n. n.octets) c.args.cons.now c.take_name.result
    c.take_name.new.cons c.holds_octets.ensures c.take_name.ensures.reads
