use Rattle.rpki_der.proofs.Form.Decoders.{decodes-next}
use Rattle.rpki_resources.proofs.Claims.{as-identifiers-part}
use Rattle.rpki_resources.proofs.claim_der.Resources+Asn.take_identifiers_from.Goals as goal

pub returns-clause-decodes : goal.returns-clause-decodes
returns-clause-decodes c =
    decodes-next as-identifiers-part (λ x. x) c.args.cons.now
    c.take_identifiers.result c.take_identifiers.new.cons
    c.holds_octets.ensures c.take_identifiers.ensures.reads
