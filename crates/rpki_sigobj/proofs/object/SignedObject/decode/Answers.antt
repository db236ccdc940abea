use Rattle.rpki_der.proofs.Form.Decoders.{decodes}
use Rattle.rpki_sigobj.specs.Object.{KeptObject, mode_of}
use Rattle.rpki_sigobj.proofs.Objects.Exact.{object-part}
use Rattle.rpki_sigobj.proofs.object.SignedObject.decode.Goals as goal

pub returns-clause-decodes : goal.returns-clause-decodes
returns-clause-decodes c =
    decodes object-part (mode_of c.args.strict) c.args.source (λ (k : KeptObject). k.object)
    c.read_front.result (rw c.as_slice.ensures at c.slices_hold_octets.ensures.octets)
    (rw c.mode_of.ensures at c.read_front.ensures.found)
