use Rattle.std.proofs.Common.{subst}
use Rattle.rpki_certs.specs.Cert.{IsKept}
use Rattle.rpki_certs.proofs.cert.Cert.encode_ref.Goals as goal

pub returns-clause-written : goal.returns-clause-written
returns-clause-written c = subst IsKept c.self.view_is c.self.invariant.0
