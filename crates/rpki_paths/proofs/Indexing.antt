-- The places of identifiers, one more at a time.
use Rattle.std.proofs.Common.{◌≡◌, ℕ, zero, suc, ◌+◌, ◌<◌, ◌≤◌, Bool, true, false, cond}
use Rattle.std.proofs.Common.{List, [], ◌∷◌, ◌++◌, length, get_or}
use Rattle.std.proofs.Common.{None, Some, Vec, refl, sym, ap, ◌∙◌, subst, inl, inr}
use Rattle.std.proofs.Common.{arith}
use Rattle.std.specs.Prelude.{slice_get, AllPairs}
use Rattle.std.proofs.lemmas.Option.{slice_get_within, same_Some}
use Rattle.std.specs.declared.alloc.Global.{Global}
use Rattle.std.specs.BTreeMap.{get, BTreeMap, is_at}
use Rattle.std.specs.Map.{lookup}
use Rattle.std.specs.Cmp.{Equal-is}
use Rattle.std.specs.Ordering.{nat_cmp, is_eq}
use Rattle.std.specs.Cmp.Lexicographic.{slice_cmp}
use Rattle.std.proofs.lemmas.Bool.{true≢false, cases_eq, cases_lt}
use Rattle.std.proofs.lemmas.Cmp.{nat_list_cmp_total, tied_itself}
use Rattle.std.proofs.lemmas.Map.Lookups.{exact_bytes}
use Rattle.rpki_paths.specs.Cert.{IsIn}
use Rattle.rpki_paths.specs.Index.{listed_in, listed, IsNamed}

get-is-in : {A : Type 0} (xs : List A) (i : ℕ) (d : A) → i < length xs → IsIn (get_or xs i d) xs
get-is-in [] i d lt = absurd (omega (arith, lt))
get-is-in (x ∷ xs) zero d lt = inl refl
get-is-in (x ∷ xs) (suc i) d lt = inr (get-is-in xs i d (omega (arith, lt)))

is-in-get : (xs : List ℕ) (x : ℕ) → IsIn x xs → (i : ℕ) × (i < length xs) × (get_or xs i 0 ≡ x)
is-in-get [] x k = absurd k
is-in-get (y ∷ xs) x (inl e) = (zero, omega arith, sym e)
is-in-get (y ∷ xs) x (inr k) =
    let t = is-in-get xs x k in (suc t.0, omega (arith, t.1), t.2)

-- ---- a scan

-- the list has the places, from one on and below another, of the identifier, in order
abbrev pub IsScan : List (List ℕ) → List ℕ → ℕ → ℕ → List ℕ → Type 0
IsScan ids id from to [] = (j : ℕ) → from ≤ j → j < to → ¬ (slice_get ids j ≡ Some id)
IsScan ids id from to (i ∷ places) =
    (from ≤ i) × (i < to) × (slice_get ids i ≡ Some id)
    × ((j : ℕ) → from ≤ j → j < i → ¬ (slice_get ids j ≡ Some id))
    × IsScan ids id (i + 1) to places

-- one place more, of the identifier
scan-push : (ids : List (List ℕ)) (id : List ℕ) (from i : ℕ) (places : List ℕ)
    → IsScan ids id from i places → from ≤ i → slice_get ids i ≡ Some id
    → IsScan ids id from (i + 1) (places ++ i ∷ [])
scan-push ids id from i [] h le at_i =
    (le, omega arith, at_i, h, λ j l lt e. absurd (omega (arith, l, lt)))
scan-push ids id from i (k ∷ places) h le at_i = (
  h.0,
  omega (arith, h.1),
  h.2,
  h.3,
  scan-push ids id (k + 1) i places h.4 (omega (arith, h.1))
      at_i,
)

-- one place more, of another identifier
scan-other : (ids : List (List ℕ)) (id : List ℕ) (from i : ℕ) (places : List ℕ)
    → IsScan ids id from i places → ¬ (slice_get ids i ≡ Some id)
    → IsScan ids id from (i + 1) places
scan-other ids id from i [] h other =
    λ j l lt e. elim (cases_eq j i) [
      | inl s ↦ other (sym (ap (slice_get ids) s) ∙ e)
      | inr differ ↦ h j l (omega (arith, lt, differ)) e
    ]
scan-other ids id from i (k ∷ places) h other =
    (h.0, omega (arith, h.1), h.2, h.3, scan-other ids id (k + 1) i places h.4 other)

pub indexed-none : (ids : List (List ℕ)) (m : BTreeMap (List ℕ) (Vec ℕ Global)) → m.entries ≡ []
    → (id : List ℕ) → IsScan ids id 0 0 (listed m id)
indexed-none ids m e id =
    subst (λ es. IsScan ids id 0 0 (listed_in (lookup (is_at (slice_cmp nat_cmp id)) es)))
    (sym e) (λ j l lt f. absurd (omega (arith, lt)))

pub indexed-more : (ids : List (List ℕ)) (m n p : BTreeMap (List ℕ) (Vec ℕ Global)) (id : List ℕ)
    (i : ℕ) (places : Vec ℕ Global) →
    ((q : List ℕ) → IsScan ids q 0 i (listed m q)) → slice_get ids i ≡ Some id →
    ((q : List ℕ) → get (slice_cmp nat_cmp) n q
    ≡ cond (is_at (slice_cmp nat_cmp id) q) None (get (slice_cmp nat_cmp) m q)) →
    ((q : List ℕ) → get (slice_cmp nat_cmp) p q
    ≡ cond (is_at (slice_cmp nat_cmp id) q) (Some places) (get (slice_cmp nat_cmp) n q)) →
    places.items ≡ listed m id ++ i ∷ [] → (q : List ℕ)
    → IsScan ids q 0 (i + 1) (listed p q)
indexed-more ids m n p id i places h at_i removed put pushed q =
    go (is_at (slice_cmp nat_cmp id) q) refl (put q) (removed q)
  where
    go : (b : Bool) → is_at (slice_cmp nat_cmp id) q ≡ b
        → get (slice_cmp nat_cmp) p q ≡ cond b (Some places) (get (slice_cmp nat_cmp) n q) →
        get (slice_cmp nat_cmp) n q ≡ cond b None (get (slice_cmp nat_cmp) m q)
        → IsScan ids q 0 (i + 1) (listed p q)
    go true e f g =
        let same : id ≡ q = exact_bytes id q ((Equal-is (slice_cmp nat_cmp id q)).0 e) in
        let mine : IsScan ids id 0 (i + 1) (listed m id ++ i ∷ []) =
        scan-push ids id 0 i (listed m id) (h id) (omega arith) at_i in
        subst (λ l. IsScan ids q 0 (i + 1) l) (sym (ap listed_in f ∙ pushed))
        (subst (λ k. IsScan ids k 0 (i + 1) (listed m id ++ i ∷ [])) same mine)
    go false e f g =
        let other : ¬ (slice_get ids i ≡ Some q) =
        λ s. true≢false (sym (ap is_eq (tied_itself nat_list_cmp_total id))
        ∙ ap (is_at (slice_cmp nat_cmp id)) (same_Some id q (sym at_i ∙ s)) ∙ e) in
        subst (λ l. IsScan ids q 0 (i + 1) l) (sym (ap listed_in (f ∙ g)))
        (scan-other ids q 0 i (listed m q) (h q) other)

-- ---- a scan has just the places

scan-has : (ids : List (List ℕ)) (id : List ℕ) (from to : ℕ) (places : List ℕ)
    → IsScan ids id from to places → (i : ℕ) → IsIn i places
    → (from ≤ i) × (slice_get ids i ≡ Some id)
scan-has ids id from to [] h i k = absurd k
scan-has ids id from to (p ∷ places) h i (inl e) =
    (omega (arith, h.0, e), ap (slice_get ids) e ∙ h.2)
scan-has ids id from to (p ∷ places) h i (inr k) =
    let t = scan-has ids id (p + 1) to places h.4 i k in (omega (arith, h.0, t.0), t.1)

scan-misses : (ids : List (List ℕ)) (id : List ℕ) (from to : ℕ) (places : List ℕ)
    → IsScan ids id from to places → (i : ℕ) → from ≤ i → i < to → slice_get ids i ≡ Some id
    → IsIn i places
scan-misses ids id from to [] h i le lt e = absurd (h i le lt e)
scan-misses ids id from to (p ∷ places) h i le lt e =
    elim (cases_eq i p) [
      | inl s ↦ inl s
      | inr differ ↦ elim (cases_lt i p) [
        | inl before ↦ absurd (h.3 i le before e)
        | inr after ↦
            inr (scan-misses ids id (p + 1) to places h.4 i (omega (arith, after, differ)) lt e)
      ]
    ]

abbrev IsAfter : ℕ → List ℕ → Type 0
IsAfter p places = (i : ℕ) → IsIn i places → p < i

ascends-cons : (p : ℕ) (places : List ℕ) → IsAfter p places → AllPairs (λ i j. i < j) places
    → AllPairs (λ i j. i < j) (p ∷ places)
ascends-cons p places after h zero zero d lt len = absurd (omega (arith, lt))
ascends-cons p places after h zero (suc j) d lt len =
    after (get_or places j d) (get-is-in places j d (omega (arith, len)))
ascends-cons p places after h (suc i) zero d lt len = absurd (omega (arith, lt))
ascends-cons p places after h (suc i) (suc j) d lt len =
    h i j d (omega (arith, lt)) (omega (arith, len))

ascends-tail : (p : ℕ) (places : List ℕ) → AllPairs (λ i j. i < j) (p ∷ places)
    → AllPairs (λ i j. i < j) places
ascends-tail p places h i j d lt len = h (suc i) (suc j) d (omega (arith, lt)) (omega (arith, len))

ascends-after : (p : ℕ) (places : List ℕ) → AllPairs (λ i j. i < j) (p ∷ places)
    → IsAfter p places
ascends-after p places h i k =
    let t = is-in-get places i k in
    let lt : p < get_or places t.0 0 = h 0 (suc t.0) 0 (omega arith) (omega (arith, t.1)) in
    omega (arith, lt, t.2)

scan-ascends : (ids : List (List ℕ)) (id : List ℕ) (from to : ℕ) (places : List ℕ)
    → IsScan ids id from to places → AllPairs (λ i j. i < j) places
scan-ascends ids id from to [] h = λ i j d lt len. absurd (omega (arith, len))
scan-ascends ids id from to (p ∷ places) h =
    ascends-cons p places
    (λ i k. (let t = scan-has ids id (p + 1) to places h.4 i k in omega (arith, t.0)))
    (scan-ascends ids id (p + 1) to places h.4)

pub named-from-scan : (ids : List (List ℕ)) (id : List ℕ) (places : List ℕ)
    → IsScan ids id 0 (length ids) places → IsNamed ids id places
named-from-scan ids id places h = record {
  ascends = scan-ascends ids id 0 (length ids) places h;
  exact = λ i. (
    λ k. (scan-has ids id 0 (length ids) places h i k).1,
    λ e. scan-misses ids id 0 (length ids) places h i (omega arith) (slice_get_within ids i id e) e,
  );
}

to-scan : (ids : List (List ℕ)) (id : List ℕ) (from : ℕ) (places : List ℕ)
    → AllPairs (λ i j. i < j) places
    → ((i : ℕ) → IsIn i places → (from ≤ i) × (slice_get ids i ≡ Some id))
    → ((i : ℕ) → from ≤ i → slice_get ids i ≡ Some id → IsIn i places)
    → IsScan ids id from (length ids) places
to-scan ids id from [] up has misses = λ j l lt e. misses j l e
to-scan ids id from (p ∷ places) up has misses =
    let here' = has p (inl refl) in
    let after = ascends-after p places up in (
      here'.0,
      slice_get_within ids p id here'.1,
      here'.1,
      λ j l lt e. elim (misses j l e) [
        | inl s ↦ omega (arith, lt, s)
        | inr k ↦ omega (arith, lt, after j k)
      ],
      to-scan ids id (p + 1) places (ascends-tail p places up)
          (λ i k. (omega (arith, after i k), (has i (inr k)).1))
          (λ i l e. elim (misses i (omega (arith, l, here'.0)) e) [
            | inl s ↦ absurd (omega (arith, l, s))
            | inr k ↦ k
          ]),
    )

pub scan-from-named : (ids : List (List ℕ)) (id : List ℕ) (places : List ℕ)
    → IsNamed ids id places → IsScan ids id 0 (length ids) places
scan-from-named ids id places h =
    to-scan ids id 0 places h.ascends (λ i k. (omega arith, (h.exact i).0 k))
    (λ i l e. (h.exact i).1 e)
