use Rattle.rpki_der.specs.Tags.{SEQUENCE}
use Rattle.rpki_der.proofs.Reading.After.{leaves-after}
use Rattle.rpki_sigobj.specs.Object.{SignedForm}
use Rattle.rpki_sigobj.proofs.laws.octets_after_a_signed_object_are_left.Goals as goal

pub returns : goal.returns
returns c = λ mode. leaves-after mode (SignedForm mode) (λ o s h. (SEQUENCE, h.1.0, h.1.1))
