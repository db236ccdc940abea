use Rattle.std.proofs.Common.{ℕ, subst, sym}
use Rattle.std.specs.List.Sorted.{IsNonDecreasing}
use Rattle.std.proofs.lemmas.List.Sorted.{IsNonDecreasingBy-from_sort}
use Rattle.rpki_routes.specs.Aspa.Built.{HasTwice}
use Rattle.rpki_routes.proofs.Ascending.{twice-moved}
use Rattle.rpki_routes.proofs.aspa.builder.AspaBuilder.new.Goals as goal

pub has_twice-requires : goal.has_twice-requires
has_twice-requires c =
    subst IsNonDecreasing (sym c.deref.ensures.value)
    (IsNonDecreasingBy-from_sort (λ (n : ℕ). n) c.sort_unstable.new.self.items
    c.sort_unstable.ensures.sorted)

pub returns-then-has_twice-clause-duplicate : goal.returns-then-has_twice-clause-duplicate
returns-then-has_twice-clause-duplicate c =
    twice-moved c.args.providers.items c.sort_unstable.new.self.items
    c.sort_unstable.ensures.permutation
    (subst HasTwice c.deref.ensures.value (c.has_twice.ensures.twice c.if-has_twice.true))
