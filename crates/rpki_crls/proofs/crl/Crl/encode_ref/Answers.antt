use Rattle.std.proofs.Common.{subst}
use Rattle.rpki_crls.specs.Crl.{IsKept}
use Rattle.rpki_crls.proofs.crl.Crl.encode_ref.Goals as goal

pub returns-clause-written : goal.returns-clause-written
returns-clause-written c = subst IsKept c.self.view_is c.self.invariant.0
