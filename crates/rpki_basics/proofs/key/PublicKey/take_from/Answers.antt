use Rattle.rpki_der.proofs.Form.Decoders.{decodes-next}
use Rattle.rpki_basics.proofs.Keys.Parts.{key-part}
use Rattle.rpki_basics.proofs.key.PublicKey.take_from.Goals as goal

pub returns-clause-decodes : goal.returns-clause-decodes
returns-clause-decodes c =
    decodes-next key-part (λ k. k) c.args.cons.now c.take_key.result c.take_key.new.cons
    c.holds_octets.ensures c.take_key.ensures.reads
