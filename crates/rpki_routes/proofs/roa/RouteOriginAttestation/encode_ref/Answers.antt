use Rattle.std.proofs.Common.{subst}
use Rattle.rpki_routes.specs.Roa.{IsRoa}
use Rattle.rpki_routes.proofs.Origins.Written.{roa-written}
use Rattle.rpki_routes.proofs.roa.RouteOriginAttestation.encode_ref.Goals as goal

pub returns-clause-written : goal.returns-clause-written
returns-clause-written c = λ short.
    roa-written c.args.self.now (subst IsRoa c.self.view_is c.self.invariant) short
