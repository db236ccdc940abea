use Rattle.rpki_der.proofs.Form.Decoders.{decodes-next}
use Rattle.rpki_extensions.proofs.Values.{key-usage-part}
use Rattle.rpki_extensions.proofs.usage.take_key_usage.Goals as goal

pub returns-clause-decodes : goal.returns-clause-decodes
returns-clause-decodes c =
    decodes-next key-usage-part (λ x. x)
    c.args.cons.now c.take_usage.result c.take_usage.new.cons
    c.holds_octets.ensures c.take_usage.ensures.reads
