use Rattle.rpki_der.proofs.Form.Decoders.{decodes-next}
use Rattle.rpki_basics.proofs.Algorithms.Parts.{cms-part}
use Rattle.rpki_basics.proofs.algorithm.RpkiSignatureAlgorithm.take_cms_from.Goals as goal

pub returns-clause-decodes : goal.returns-clause-decodes
returns-clause-decodes c =
    decodes-next cms-part (λ _. tt) c.args.cons.now c.take_cms.result c.take_cms.new.cons
    c.holds_octets.ensures c.take_cms.ensures.reads
