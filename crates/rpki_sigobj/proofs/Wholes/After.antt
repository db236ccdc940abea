-- Octets after an object.
use Rattle.std.proofs.Common.{ℕ, List}
use Rattle.rpki_der.specs.Tags.{SEQUENCE}
use Rattle.rpki_der.specs.declared.mode.Mode.{Mode}
use Rattle.rpki_der.specs.Form.After.{LeavesOctetsAfter}
use Rattle.rpki_der.proofs.Reading.After.{leaves-after}
use Rattle.rpki_sigobj.specs.Signed.{ObjectForm}

pub object-leaves : {X : Type 0} (type : List ℕ) (form : List ℕ → X → Type 0) (mode : Mode)
    → LeavesOctetsAfter mode (ObjectForm type form mode)
object-leaves type form mode = leaves-after mode (ObjectForm type form mode)
    (λ o x h. (SEQUENCE, h.0.0.1.0, h.0.0.1.1))
