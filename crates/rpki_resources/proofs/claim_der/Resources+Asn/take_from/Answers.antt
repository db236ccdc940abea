use Rattle.rpki_der.proofs.Form.Decoders.{decodes-next}
use Rattle.rpki_resources.proofs.Claims.{as-claim-part}
use Rattle.rpki_resources.proofs.claim_der.Resources+Asn.take_from.Goals as goal

pub returns-clause-decodes : goal.returns-clause-decodes
returns-clause-decodes c =
    decodes-next as-claim-part (λ x. x) c.args.cons.now
    c.take_as_claim.result c.take_as_claim.new.cons
    c.holds_octets.ensures c.take_as_claim.ensures.reads
