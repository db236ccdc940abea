use Rattle.rpki_der.proofs.Form.Decoders.{decodes-next}
use Rattle.rpki_resources.proofs.Families.Exact.{family-part}
use Rattle.rpki_resources.proofs.family.AddressFamily.take_from.Goals as goal

pub returns-clause-decodes : goal.returns-clause-decodes
returns-clause-decodes c =
    decodes-next family-part (λ x. x) c.args.cons.now c.take_family.result c.take_family.new.cons
    c.holds_octets.ensures c.take_family.ensures.reads
