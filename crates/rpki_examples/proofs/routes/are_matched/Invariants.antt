use Rattle.std.proofs.Common.{length}
use Rattle.rpki_routes.specs.Roa.{Address}
use Rattle.rpki_examples.specs.Routes.{IsMatched}
use Rattle.rpki_examples.proofs.Search.{LeftTo}
use Rattle.rpki_examples.proofs.routes.are_matched.Given as goal

abbrev pub invariant-loop-address : goal.invariant-loop-address
invariant-loop-address l =
    LeftTo (λ (a : Address). IsMatched a l.fn.route) l.fn.addresses l.left

abbrev pub decreases-loop-address : goal.decreases-loop-address
decreases-loop-address l = length l.left
