use Rattle.rpki_der.proofs.Form.Decoders.{decodes-next}
use Rattle.rpki_sigobj.specs.Object.{KeptObject}
use Rattle.rpki_sigobj.proofs.Objects.Exact.{object-part}
use Rattle.rpki_sigobj.proofs.object.SignedObject.take_from.Goals as goal

pub returns-clause-decodes : goal.returns-clause-decodes
returns-clause-decodes c =
    decodes-next object-part (λ (k : KeptObject). k.object) c.args.cons.now
    c.take_object.result c.take_object.new.cons c.holds_octets.ensures c.take_object.ensures.reads
