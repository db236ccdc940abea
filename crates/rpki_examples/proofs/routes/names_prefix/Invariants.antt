use Rattle.std.proofs.Common.{◌≡◌, length}
use Rattle.rpki_routes.specs.Roa.{FamilyAddress, addresses}
use Rattle.rpki_examples.proofs.Search.{LeftTo}
use Rattle.rpki_examples.proofs.routes.names_prefix.Given as goal

abbrev pub invariant-loop-address : goal.invariant-loop-address
invariant-loop-address l =
    LeftTo (λ (a : FamilyAddress). a.address.prefix ≡ l.fn.prefix) (addresses l.fn.roa) l.left

abbrev pub decreases-loop-address : goal.decreases-loop-address
decreases-loop-address l = length l.left
