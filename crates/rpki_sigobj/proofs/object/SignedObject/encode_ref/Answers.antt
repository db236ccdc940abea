use Rattle.std.proofs.Common.{subst}
use Rattle.rpki_sigobj.specs.Object.{IsKept}
use Rattle.rpki_sigobj.proofs.object.SignedObject.encode_ref.Goals as goal

pub returns-clause-written : goal.returns-clause-written
returns-clause-written c = subst IsKept c.self.view_is c.self.invariant.0
