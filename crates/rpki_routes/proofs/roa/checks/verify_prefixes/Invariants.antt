use Rattle.std.proofs.Common.{length}
use Rattle.rpki_routes.proofs.roa.checks.verify_prefixes.Given as goal
use Rattle.rpki_routes.proofs.Origins.Prefixes.{LeftTo}

abbrev pub invariant-loop-address : goal.invariant-loop-address
invariant-loop-address l = LeftTo l.fn.family l.fn.set l.fn.addresses l.left

abbrev pub decreases-loop-address : goal.decreases-loop-address
decreases-loop-address l = length l.left
