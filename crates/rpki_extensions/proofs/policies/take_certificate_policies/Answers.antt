use Rattle.rpki_der.proofs.Form.Decoders.{decodes-next}
use Rattle.rpki_extensions.proofs.Resources.{policies-part}
use Rattle.rpki_extensions.proofs.policies.take_certificate_policies.Goals as goal

pub returns-clause-decodes : goal.returns-clause-decodes
returns-clause-decodes c =
    decodes-next policies-part (λ x. x) c.args.cons.now c.take_policies.result
    c.take_policies.new.cons c.holds_octets.ensures c.take_policies.ensures.reads
