use Rattle.rpki_der.proofs.Form.Decoders.{decodes-next}
use Rattle.rpki_resources.proofs.Claims.{ip-claim-part}
use Rattle.rpki_resources.proofs.Families.ByFamily.{families-part}
use Rattle.rpki_resources.proofs.by_family.ByFamily+IpResources.take_from.Goals as goal

pub returns-clause-decodes : goal.returns-clause-decodes
returns-clause-decodes c =
    decodes-next (families-part ip-claim-part) (λ x. x) c.args.cons.now
    c.take_families.result c.take_families.new.cons
    c.holds_octets.ensures c.take_families.ensures.reads
