use Rattle.rpki_der.proofs.Form.Decoders.{decodes-next}
use Rattle.rpki_basics.proofs.Algorithms.Parts.{cert-part}
use Rattle.rpki_basics.proofs.algorithm.RpkiSignatureAlgorithm.take_cert_from.Goals as goal

pub returns-clause-decodes : goal.returns-clause-decodes
returns-clause-decodes c =
    decodes-next cert-part (λ _. tt) c.args.cons.now c.take_cert.result c.take_cert.new.cons
    c.holds_octets.ensures c.take_cert.ensures.reads
