-- A number is looked up by halves.
use Rattle.std.proofs.Common.{◌≡◌, ◌↔◌, ℕ, ◌<◌, List, length, Contains}
use Rattle.std.proofs.Common.{get_or, Result, Ok, Err, is_ok, IsTrue, Ordering, Less, Equal}
use Rattle.std.proofs.Common.{Greater, arith, refl, sym, true≢false}
use Rattle.std.specs.List.Sorted.{IsPermutation, IsSorted, IsBinarySearchResult, IsSearchInRange}
use Rattle.std.specs.List.Sorted.{IsPartitionPoint}
use Rattle.std.specs.Ordering.{nat_cmp, MatchOrdering}
use Rattle.std.proofs.Math.Nat.{lt_of_not-le}
use Rattle.std.proofs.lemmas.Cmp.{nat_cmp_total, ranked}
use Rattle.std.proofs.lemmas.List.Sorted.{Contains-permutation, IsPermutation-sym}
use Rattle.std.proofs.lemmas.List.Sorted.{searchable_from_sorted}

-- what a comparison says
compared : (x y : ℕ) (o : Ordering) → nat_cmp y x ≡ o → MatchOrdering o (y < x) (y ≡ x) (x < y)
compared x y o e = ranked y x o (sym e)

module _ (numbers sorted : List ℕ) (all : IsPermutation numbers sorted)
    (order : IsSorted nat_cmp sorted) (x : ℕ) where
  module _ (i : ℕ)
      (parts : IsPartitionPoint (λ y. nat_cmp y x ≡ Less) (λ y. nat_cmp y x ≡ Greater) sorted i)
    where
      nowhere : ¬ Contains sorted x
      nowhere (k, below, is) =
          let early : k < i = lt_of_not-le (λ later. omega (
            arith,
            is,
            compared x (get_or sorted k x) Greater (parts.1 k x later below),
          )) in
          omega (arith, is, compared x (get_or sorted k x) Less (parts.0 k x (omega arith) early))

  -- it is found exactly where it is one of the numbers
  pub found-by-halves : (r : Result ℕ ℕ) → IsSearchInRange r (length sorted)
      → IsBinarySearchResult (λ y. nat_cmp y x) sorted r → IsTrue (is_ok r) ↔ Contains numbers x
  found-by-halves (Ok i) below h = (
    λ _. Contains-permutation sorted numbers x (IsPermutation-sym numbers sorted all)
        (i, below, compared x (get_or sorted i x) Equal (h x)),
    λ _. refl,
  )
  found-by-halves (Err i) below h = (
    λ t. absurd (true≢false (sym t)),
    λ c. absurd (nowhere i
        (h (searchable_from_sorted nat_cmp_total (λ (y : ℕ). y) sorted x order))
        (Contains-permutation numbers sorted x all c)),
  )
