-- The providers that may stand one after the other.
use Rattle.std.proofs.Common.{◌≡◌, ◌≢◌, ℕ, zero, suc, ◌+◌, ◌<◌, ◌≤◌, Bool, true, false, List, []}
use Rattle.std.proofs.Common.{◌∷◌, length, Option, None, Some, refl, add-one, arith}
use Rattle.std.specs.Prelude.{◌&&◌, not, ◌==◌, nat_lt, Contains, slice_index, All, Decides}
use Rattle.std.specs.Prelude.{if◌then◌else◌}
use Rattle.std.specs.List.Sorted.{IsStrictlyIncreasing}
use Rattle.std.proofs.lemmas.Bool.{ltb-true, lt-ltb, eqb-true, eqb-false, and_parts, and_from}
use Rattle.std.proofs.lemmas.List.Elements.{All-nil, All-cons, All-head, All-tail}
use Rattle.std.proofs.lemmas.Bool.{not-true}
use Rattle.rpki_lists.specs.Rules.{admits, goes_on}
use Rattle.rpki_basics.specs.declared.limits.ProviderLimit.{ProviderLimit}
use Rattle.rpki_basics.specs.Limits.{most_providers}
use Rattle.rpki_routes.specs.declared.aspa.providers.InOrder.{InOrder}
use Rattle.rpki_routes.specs.Aspa.Read.{follows, may_come, after_provider, at_first, has_one}

-- ---- truth values

pub not-is : (a : Bool) → (a ≡ true → ⊥) → not a ≡ true
not-is true h = absurd (h refl)
not-is false h = refl

-- ---- one after the other

-- each is above the one before, and 0 is followed by none
abbrev Chain : Option ℕ → List ℕ → Type 0
Chain last [] = Unit {0}
Chain None (x ∷ xs) = Chain (Some x) xs
Chain (Some a) (x ∷ xs) = (0 < a) × (a < x) × Chain (Some x) xs

-- what may follow what has been seen
record Goes (seen : InOrder) (xs : List ℕ) : Type 0 where
  pub most : seen.count + length xs ≤ most_providers seen.limit
  pub others : All (λ n. n ≢ seen.customer) xs
  pub chain : Chain seen.last xs

-- what has been seen after one more
abbrev next : InOrder → ℕ → InOrder
next seen x = record {
  limit = seen.limit;
  customer = seen.customer;
  count = seen.count + 1;
  last = Some x;
}

came : (c : Bool) (t : InOrder) (xs : List ℕ)
    → goes_on (λ u. admits after_provider u xs) (if c then Some t else None) ≡ true
    → (c ≡ true) × (admits after_provider t xs ≡ true)
came true t xs e = (refl, e)
came false t xs e = absurd cc

comes : (c : Bool) (t : InOrder) (xs : List ℕ) → c ≡ true → admits after_provider t xs ≡ true
    → goes_on (λ u. admits after_provider u xs) (if c then Some t else None) ≡ true
comes true t xs e h = h
comes false t xs e h = absurd cc

chain-more : (last : Option ℕ) (x : ℕ) (xs : List ℕ) → follows last x ≡ true → Chain (Some x) xs
    → Chain last (x ∷ xs)
chain-more None x xs f h = h
chain-more (Some a) x xs f h = let p = and_parts _ _ f in (ltb-true _ _ p.0, ltb-true _ _ p.1, h)

chain-first : (last : Option ℕ) (x : ℕ) (xs : List ℕ) → Chain last (x ∷ xs)
    → (follows last x ≡ true) × Chain (Some x) xs
chain-first None x xs h = (refl, h)
chain-first (Some a) x xs h = (and_from _ _ (lt-ltb _ _ h.0) (lt-ltb _ _ h.1), h.2)

goes-sound : (seen : InOrder) (xs : List ℕ) → seen.count ≤ most_providers seen.limit
    → admits after_provider seen xs ≡ true → Goes seen xs
goes-sound seen [] le e =
    record { most = omega (arith, le); others = All-nil (λ n. n ≢ seen.customer); chain = tt }
goes-sound seen (x ∷ xs) le e =
    let c = came (may_come seen x) (next seen x) xs e in
    let p = and_parts (nat_lt seen.count (most_providers seen.limit))
    (not (x == seen.customer) && follows seen.last x) c.0 in
    let q = and_parts (not (x == seen.customer)) (follows seen.last x) p.1 in
    let room : seen.count < most_providers seen.limit = ltb-true _ _ p.0 in
    let g = goes-sound (next seen x) xs (omega (arith, room)) c.1 in
    record {
      most = omega (arith, g.most);
      others = All-cons (λ n. n ≢ seen.customer) x xs
          (λ same. eqb-false _ _ (not-true _ q.0) same) g.others;
      chain = chain-more seen.last x xs q.1 g.chain;
    }

goes-complete : (seen : InOrder) (xs : List ℕ) → Goes seen xs
    → admits after_provider seen xs ≡ true
goes-complete seen [] g = refl
goes-complete seen (x ∷ xs) g =
    let first = chain-first seen.last x xs g.chain in
    let other = All-head (λ n. n ≢ seen.customer) x xs g.others in
    let may : may_come seen x ≡ true =
    and_from _ _ (lt-ltb _ _ (omega (arith, g.most)))
    (and_from _ _ (not-is _ (λ same. other (eqb-true _ _ same))) first.0) in
    comes (may_come seen x) (next seen x) xs may
    (goes-complete (next seen x) xs (record {
      most = omega (arith, g.most);
      others = All-tail (λ n. n ≢ seen.customer) x xs g.others;
      chain = first.1;
    }))

-- ---- in ascending order, and 0 only alone

later : (a : ℕ) (xs : List ℕ) (k : ℕ) → slice_index xs k < slice_index xs (k + 1)
    → slice_index (a ∷ xs) (suc k) < slice_index (a ∷ xs) (suc k + 1)
later a xs k h = let g : slice_index xs k < slice_index xs (suc k) = rw (add-one k) at h in
    rw (add-one (suc k)) g

earlier : (a : ℕ) (xs : List ℕ) (k : ℕ)
    → slice_index (a ∷ xs) (suc k) < slice_index (a ∷ xs) (suc k + 1)
    → slice_index xs k < slice_index xs (k + 1)
earlier a xs k h =
    let g : slice_index (a ∷ xs) (suc k) < slice_index (a ∷ xs) (suc (suc k)) =
    rw (add-one (suc k)) at h in rw (add-one k) g

rises-after : (a : ℕ) (xs : List ℕ) → Chain (Some a) xs → IsStrictlyIncreasing (a ∷ xs)
rises-after a [] h k lt = absurd (omega arith)
rises-after a (x ∷ xs) h zero lt = h.1
rises-after a (x ∷ xs) h (suc k) lt =
    later a (x ∷ xs) k (rises-after x xs h.2 k (omega arith))

rises : (xs : List ℕ) → Chain None xs → IsStrictlyIncreasing xs
rises [] h k lt = absurd (omega arith)
rises (x ∷ xs) h k lt = rises-after x xs h k lt

positive : (a : ℕ) (xs : List ℕ) → 0 < a → Chain (Some a) xs → All (λ n. 0 < n) xs
positive a [] p h = All-nil (λ n. 0 < n)
positive a (x ∷ xs) p h =
    let more : 0 < x = omega (arith, p, h.1) in
    All-cons (λ n. 0 < n) x xs more (positive x xs more h.2)

no-zero : (xs : List ℕ) → All (λ n. 0 < n) xs → Contains xs 0 → ⊥
no-zero xs all c = let p = all c.0 0 c.1 in absurd (omega (arith, p, c.2))

alone : (xs : List ℕ) → Chain None xs → Contains xs 0 → length xs ≡ 1
alone [] h c = absurd (omega (arith, c.1))
alone (a ∷ []) h c = refl
alone (a ∷ x ∷ xs) h c =
    absurd (no-zero (a ∷ x ∷ xs)
    (All-cons (λ n. 0 < n) a (x ∷ xs) h.0 (positive a (x ∷ xs) h.0 h)) c)

chain-after : (a : ℕ) (xs : List ℕ) → 0 < a → IsStrictlyIncreasing (a ∷ xs) → Chain (Some a) xs
chain-after a [] p h = tt
chain-after a (x ∷ xs) p h = let lt : a < x = h 0 (omega arith) in (
  p,
  lt,
  chain-after x xs (omega (arith, p, lt))
      (λ k l. earlier a (x ∷ xs) k (h (suc k) (omega arith))),
)

chained : (xs : List ℕ) → IsStrictlyIncreasing xs → (Contains xs 0 → length xs ≡ 1) → Chain None xs
chained [] h c = tt
chained (a ∷ []) h c = tt
chained (zero ∷ x ∷ xs) h c = absurd (omega (arith, c (0, omega arith, refl)))
chained (suc a ∷ x ∷ xs) h c = chain-after (suc a) (x ∷ xs) (omega arith) h

not-among : (xs : List ℕ) (n : ℕ) → (Contains xs n → ⊥) → All (λ m. m ≢ n) xs
not-among [] n h = All-nil (λ m. m ≢ n)
not-among (x ∷ xs) n h =
    All-cons (λ m. m ≢ n) x xs (λ same. h (0, omega arith, same))
    (not-among xs n (λ c. h (suc c.0, omega (arith, c.1), c.2)))

-- ---- what the rule admits

-- What may be the beginning of a customer's providers: no more than the limit says, each below the
-- next, none of them the customer, and 0 only alone.
pub record MayBegin (limit : ProviderLimit) (customer : ℕ) (providers : List ℕ) : Type 0 where
  pub most : length providers ≤ most_providers limit
  pub ascending : IsStrictlyIncreasing providers
  pub others : Contains providers customer → ⊥
  pub alone : Contains providers 0 → length providers ≡ 1

pub in-order : (limit : ProviderLimit) (customer : ℕ) (xs : List ℕ)
    → Decides (admits after_provider (at_first limit customer) xs) (MayBegin limit customer xs)
in-order limit customer xs = (
  λ e. let g = goes-sound (at_first limit customer) xs (omega arith) e in record {
    most = omega (arith, g.most);
    ascending = rises xs g.chain;
    others = λ c. g.others c.0 customer c.1 c.2;
    alone = alone xs g.chain;
  },
  λ h. goes-complete (at_first limit customer) xs (record {
    most = omega (arith, h.most);
    others = not-among xs customer h.others;
    chain = chained xs h.ascending h.alone;
  }),
)

pub some-one : (xs : List ℕ) → Decides (has_one xs) (1 ≤ length xs)
some-one xs = (
  λ e. let some = eqb-false _ _ (not-true _ e) in omega (arith, some),
  λ h. not-is _ (λ e. let none = eqb-true _ _ e in omega (arith, h, none)),
)
