-- Numbers in ascending order: one that is put in its place, and one that stands twice.
use Rattle.std.proofs.Common.{◌≡◌, ◌≢◌, ℕ, ◌+◌, ◌-◌, ◌≤◌, ◌<◌, ◌^◌, List, ◌∷◌, length, get_or, All}
use Rattle.std.proofs.Common.{Err, inl, inr, ap, sym, ◌∙◌, ltb, arith}
use Rattle.std.specs.List.{insert, remove}
use Rattle.std.specs.List.Sorted.{IsBinarySearchResult, IsNonDecreasing, IsPermutation}
use Rattle.std.specs.List.Sorted.{IsStrictlyIncreasing}
use Rattle.std.specs.Ordering.{nat_cmp}
use Rattle.std.proofs.lemmas.Bool.{ltb-true, ltb-false}
use Rattle.std.proofs.lemmas.List.{get_or_default}
use Rattle.std.proofs.lemmas.List.Edits.{length-insert, get_or-insert_below, get_or-insert_at}
use Rattle.std.proofs.lemmas.List.Edits.{get_or-insert_above, length-remove, get_or-remove_above}
use Rattle.std.proofs.lemmas.List.Kept.{AllPairs-from_increasing}
use Rattle.std.proofs.lemmas.List.Sorted.{IsPermutation-insert, IsPermutation-remove}
use Rattle.std.proofs.lemmas.List.Sorted.{IsPermutation-cons, IsPermutation-sym}
use Rattle.std.proofs.lemmas.List.Sorted.{IsPermutation-trans, searched}
use Rattle.rpki_der.proofs.Writing.Lengths.{test}
use Rattle.rpki_resources.specs.As.{IsAsn}
use Rattle.rpki_routes.specs.Aspa.Built.{HasTwice, IsAdded, IsPlace}

-- ---- a place

-- numbers that ascend do not fall
pub do-not-fall : (xs : List ℕ) → IsStrictlyIncreasing xs → (i j : ℕ) → i ≤ j → j < length xs
    → get_or xs i 0 ≤ get_or xs j 0
do-not-fall xs h i j le lt = elim (test (ltb i j)) [
  | inl e ↦
      let below : i < j = ltb-true i j e in
      omega (arith, AllPairs-from_increasing xs h i j 0 below lt)
  | inr e ↦
      let same : i ≡ j = omega (arith, ltb-false i j e) in
      omega (arith, ap (λ (k : ℕ). get_or xs k 0) same)
]

-- what a search among ascending numbers answers, where it finds none, is the place
pub placed : (xs : List ℕ) (n i : ℕ) → IsStrictlyIncreasing xs
    → IsBinarySearchResult (λ y. nat_cmp y n) xs (Err i) → IsPlace n xs i
placed xs n i up h =
    let s = searched xs n (Err i) h (do-not-fall xs up) in
    record { within = s.0; lower = s.1; higher = s.2 }

module _ (xs : List ℕ) (i n : ℕ) (up : IsStrictlyIncreasing xs) (l : i ≤ length xs)
    (low : (k : ℕ) → k < i → get_or xs k 0 < n)
    (high : (k : ℕ) → i ≤ k → k < length xs → n < get_or xs k 0) where
  at : (k m : ℕ) → k ≡ m → get_or (insert xs i n) k 0 ≡ get_or (insert xs i n) m 0
  at k m e = ap (λ (j : ℕ). get_or (insert xs i n) j 0) e

  before : (k : ℕ) → k + 1 < i → get_or (insert xs i n) k 0 < get_or (insert xs i n) (k + 1) 0
  before k b =
      omega (
        arith,
        get_or-insert_below xs i n 0 k (omega (arith, b)) l,
        get_or-insert_below xs i n 0 (k + 1) b l,
        up k (omega (arith, b, l)),
      )

  up-to : (k : ℕ) → k + 1 ≡ i → get_or (insert xs i n) k 0 < get_or (insert xs i n) (k + 1) 0
  up-to k e =
      omega (
        arith,
        get_or-insert_below xs i n 0 k (omega (arith, e)) l,
        at (k + 1) i e,
        get_or-insert_at xs i n 0 l,
        low k (omega (arith, e)),
      )

  from : (k : ℕ) → k ≡ i → k < length xs
      → get_or (insert xs i n) k 0 < get_or (insert xs i n) (k + 1) 0
  from k e lt =
      omega (
        arith,
        at k i e,
        get_or-insert_at xs i n 0 l,
        get_or-insert_above xs i n 0 k (omega (arith, e)) l,
        high k (omega (arith, e)) lt,
      )

  after : (k : ℕ) → i < k → k < length xs
      → get_or (insert xs i n) k 0 < get_or (insert xs i n) (k + 1) 0
  after k b lt =
      let back : k ≡ (k - 1) + 1 = omega (arith, b) in
      omega (
        arith,
        at k ((k - 1) + 1) back,
        get_or-insert_above xs i n 0 (k - 1) (omega (arith, b)) l,
        get_or-insert_above xs i n 0 k (omega (arith, b)) l,
        up (k - 1) (omega (arith, b, lt)),
        ap (λ (j : ℕ). get_or xs j 0) back,
      )

  ascends : IsStrictlyIncreasing (insert xs i n)
  ascends k within =
      let lt : k < length xs = omega (arith, length-insert xs i n l) in
      elim (test (ltb (k + 1) i)) [
        | inl e ↦ before k (ltb-true (k + 1) i e)
        | inr e ↦ elim (test (ltb k i)) [
          | inl f ↦ up-to k (omega (arith, ltb-false (k + 1) i e, ltb-true k i f))
          | inr f ↦ elim (test (ltb i k)) [
            | inl g ↦ after k (ltb-true i k g) lt
            | inr g ↦ from k (omega (arith, ltb-false k i f, ltb-false i k g)) lt
          ]
        ]
      ]

-- a number that is put in its place among ascending ones
pub added_at : (xs : List ℕ) (i n : ℕ) → IsStrictlyIncreasing xs → IsPlace n xs i
    → IsAdded n xs (insert xs i n)
added_at xs i n up p = record {
  both = IsPermutation-insert xs i n;
  ascending = ascends xs i n up p.within p.lower p.higher;
}

-- where the last of ascending numbers is one of an autonomous system, so is each
pub below_last : (xs : List ℕ) → IsStrictlyIncreasing xs
    → get_or xs (length xs - 1) 0 < 2 ^ 32 → All IsAsn xs
below_last xs up h k d lt =
    omega (
      arith,
      get_or_default xs k d 0 lt,
      do-not-fall xs up k (length xs - 1) (omega (arith, lt)) (omega (arith, lt)),
      h,
    )

-- ---- a number that stands twice

-- two neighbours are the same number, which stands twice
pub twins : (xs : List ℕ) (i : ℕ) → i + 1 < length xs → get_or xs i 0 ≡ get_or xs (i + 1) 0
    → HasTwice xs
twins xs i lt same =
    let n : ℕ = get_or xs i 0 in
    let here : i < length xs = omega (arith, lt) in
    let rest : List ℕ = remove xs i in
    let there : i < length rest = omega (arith, length-remove xs i here, lt) in
    let first : n ≡ get_or xs i n = sym (get_or_default xs i n 0 here) in
    let second : n ≡ get_or rest i n =
    same ∙ sym (get_or_default xs (i + 1) n 0 lt)
    ∙ sym (get_or-remove_above xs i n i (omega arith) here) in
    let others : List ℕ = remove rest i in (
      n,
      others,
      IsPermutation-sym xs (n ∷ (n ∷ others))
          (IsPermutation-trans xs (n ∷ rest) (n ∷ (n ∷ others))
          (IsPermutation-remove xs i n here first)
          (IsPermutation-cons n rest (n ∷ others) (IsPermutation-remove rest i n there second))),
    )

-- the same, of what is read at two neighbouring places
pub twins_at : (xs : List ℕ) (i a b : ℕ) → 1 ≤ i → i < length xs → a ≡ get_or xs (i - 1) a
    → b ≡ get_or xs i b → a ≡ b → HasTwice xs
twins_at xs i a b some lt first second same =
    let before : i - 1 < length xs = omega (arith, some, lt) in
    let next : i ≡ (i - 1) + 1 = omega (arith, some) in
    twins xs (i - 1) (omega (arith, some, lt))
    (sym (get_or_default xs (i - 1) a 0 before) ∙ sym first ∙ same ∙ second
    ∙ get_or_default xs i b 0 lt ∙ ap (λ (k : ℕ). get_or xs k 0) next)

-- numbers that don't fall ascend, where no two neighbours are the same
pub ascend : (xs : List ℕ) → IsNonDecreasing xs
    → ((k : ℕ) → k + 1 < length xs → get_or xs k 0 ≢ get_or xs (k + 1) 0) → IsStrictlyIncreasing xs
ascend xs up apart k lt =
    let other = apart k lt in
    let le = up k (k + 1) 0 (omega arith) lt in omega (arith, other, le)

-- what stands twice in another order stands twice
pub twice-moved : (xs ys : List ℕ) → IsPermutation xs ys → HasTwice ys → HasTwice xs
twice-moved xs ys p h = (
  h.0,
  h.1,
  IsPermutation-trans (h.0 ∷ (h.0 ∷ h.1)) ys xs h.2 (IsPermutation-sym xs ys p),
)
