use Rattle.rpki_der.proofs.Form.Decoders.{decodes-next}
use Rattle.rpki_basics.proofs.Algorithms.Parts.{digest-part}
use Rattle.rpki_basics.proofs.algorithm.DigestAlgorithm.take_from.Goals as goal

pub returns-clause-decodes : goal.returns-clause-decodes
returns-clause-decodes c =
    decodes-next digest-part (λ _. tt) c.args.cons.now c.take_digest.result c.take_digest.new.cons
    c.holds_octets.ensures c.take_digest.ensures.reads
