use Rattle.rpki_der.proofs.Form.Decoders.{decodes-next}
use Rattle.rpki_multi.specs.Multi.{multi_of}
use Rattle.rpki_multi.proofs.Multis.Exact.{multi-part}
use Rattle.rpki_multi.proofs.multi.MultiSignedObject.take_from.Goals as goal

pub returns-clause-decodes : goal.returns-clause-decodes
returns-clause-decodes c =
    decodes-next multi-part multi_of c.args.cons.now c.take_object.result c.take_object.new.cons
    c.holds_octets.ensures c.take_object.ensures.reads
