use Rattle.rpki_der.proofs.Form.Decoders.{decodes-next}
use Rattle.rpki_extensions.proofs.Resources.{ip-claims-part}
use Rattle.rpki_extensions.proofs.addresses.IpClaims.take_from.Goals as goal

pub returns-clause-decodes : goal.returns-clause-decodes
returns-clause-decodes c =
    decodes-next ip-claims-part (λ x. x) c.args.cons.now c.take_claims.result
    c.take_claims.new.cons c.holds_octets.ensures c.take_claims.ensures.reads
