use Rattle.std.proofs.Common.{◌≡◌, ℕ, length}
use Rattle.rpki_examples.proofs.Search.{LeftTo}
use Rattle.rpki_examples.proofs.routes.is_provider.Given as goal

abbrev pub invariant-loop-next : goal.invariant-loop-next
invariant-loop-next l =
    LeftTo (λ (n : ℕ). n ≡ l.fn.provider) l.fn.content.providers l.left

abbrev pub decreases-loop-next : goal.decreases-loop-next
decreases-loop-next l = length l.left
