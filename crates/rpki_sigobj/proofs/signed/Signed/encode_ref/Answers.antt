use Rattle.std.proofs.Common.{subst}
use Rattle.rpki_sigobj.specs.Object.{SignedForm}
use Rattle.rpki_sigobj.proofs.signed.Signed.encode_ref.Goals as goal
use Rattle.rpki_sigobj.specs.Signed.{KeptWhole}

pub returns-clause-written : goal.returns-clause-written
returns-clause-written g c =
    subst (λ (k : KeptWhole _). SignedForm k.object.mode k.object.object.octets k.object.object)
    c.self.view_is c.encode_ref.ensures.written
