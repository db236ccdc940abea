use Rattle.rpki_der.proofs.Form.Decoders.{decodes-next}
use Rattle.rpki_resources.proofs.Claims.{ip-claim-part}
use Rattle.rpki_resources.proofs.claim_der.Resources+Addr.take_from.Goals as goal

pub returns-clause-decodes : goal.returns-clause-decodes
returns-clause-decodes c =
    decodes-next (ip-claim-part c.args.family) (λ x. x) c.args.cons.now
    c.take_ip_claim.result c.take_ip_claim.new.cons
    c.holds_octets.ensures c.take_ip_claim.ensures.reads
