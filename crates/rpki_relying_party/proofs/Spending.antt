-- What was spent on tries of each key is kept.
use Rattle.std.proofs.Common.{◌≡◌, ◌⊎◌, inl, inr, ℕ, zero, suc, ◌+◌, ◌*◌, ◌<◌, ◌≤◌, List, [], ◌∷◌}
use Rattle.std.proofs.Common.{◌++◌, Bool, true, false, cond, Vec, Option, Some, Contains}
use Rattle.std.proofs.Common.{unwrap_or, refl, sym, subst, ap, ◌∙◌, arith}
use Rattle.std.specs.Prelude.{bytes_eq, sum_by}
use Rattle.std.proofs.lemmas.Bool.{true≢false}
use Rattle.std.proofs.lemmas.Cmp.{nat_list_cmp_total, eq_by_cmp_equiv}
use Rattle.std.proofs.lemmas.List.Elements.{Contains-append_left, Contains-push}
use Rattle.std.proofs.lemmas.List.Sums.{sum_by_push, sum_by-le-sum_by}
use Rattle.std.proofs.lemmas.Slice.Eq.{bytes_eq-Decides}
use Rattle.std.specs.declared.alloc.Global.{Global}
use Rattle.std.specs.BTreeMap.{BTreeMap, Updates, is_at}
use Rattle.std.specs.Cmp.Lexicographic.{slice_cmp}
use Rattle.std.specs.Map.{KeepsOthers, lookup}
use Rattle.std.specs.Ordering.{eq_by_cmp, nat_cmp}
use Rattle.rpki_relying_party.specs.Walk.{Try, IsSmall, spent_on}
use Rattle.rpki_relying_party.specs.Steps.{spent_for, Spends}
use Rattle.rpki_relying_party.proofs.Keys.{same-if}

module _ (key : Vec ℕ Global) (old new : BTreeMap (Vec ℕ Global) ℕ) (k : List ℕ) where
  abbrev by_items : List ℕ → Vec ℕ Global → Bool
  by_items octets = is_at (λ (x : Vec ℕ Global). slice_cmp nat_cmp octets x.items)

  apart : bytes_eq key.items k ≡ false → (x : Vec ℕ Global) → by_items key.items x ≡ true
      → by_items k x ≡ false
  apart n x y = go (by_items k x) refl
    where
      go : (b : Bool) → by_items k x ≡ b → b ≡ false
      go true e = absurd (true≢false (sym ((bytes_eq-Decides key.items k).1
          (same-if key.items x.items y ∙ sym (same-if k x.items e))) ∙ n))
      go false e = refl

  -- what is kept for another key stays
  same : bytes_eq key.items k ≡ false
      → KeepsOthers (eq_by_cmp (λ (x y : Vec ℕ Global). slice_cmp nat_cmp x.items y.items))
      (by_items key.items) old.entries new.entries → spent_for new k ≡ spent_for old k
  unfolding KeepsOthers
  same n h = ap (λ (o : Option ℕ). unwrap_or o 0) (h (by_items k)
      (λ x y. (eq_by_cmp_equiv nat_list_cmp_total).congr k x.items y.items) (apart n))

pub spends : (key : Vec ℕ Global) (old new : BTreeMap (Vec ℕ Global) ℕ) (now room : ℕ)
    → now ≡ spent_for old key.items + room
    → Updates (λ x y. slice_cmp nat_cmp x.items y.items) old new key (Some now)
    → Spends key.items room (spent_for old) (spent_for new)
spends key old new now room is h k = by (bytes_eq key.items k) refl
  where
    by : (b : Bool) → bytes_eq key.items k ≡ b
        → spent_for new k ≡ spent_for old k + cond b room 0
    by true e =
        let s = (bytes_eq-Decides key.items k).0 e in
        sym (ap (λ (l : List ℕ). spent_for new l) s) ∙ ap (λ (o : Option ℕ). unwrap_or o 0) (h.1)
        ∙ is ∙ ap (λ (l : List ℕ). spent_for old l + room) s
    by false e = same key old new k e (h.3) ∙ plain (spent_for old k)
      where
        plain : (n : ℕ) → n ≡ n + 0
        plain n = omega arith

-- ---- tries that were cut
module _ {P : Type 0} (key : P → List ℕ) (cuts : List (Try P)) where
  pub spent-fits : (k : List ℕ) → spent_on key cuts k ≤ sum_by (λ (t : Try P). t.room) cuts
  spent-fits k = sum_by-le-sum_by (λ (t : Try P). cond (bytes_eq (key t.place) k) t.room 0)
      (λ (t : Try P). t.room) cuts (λ t. part (bytes_eq (key t.place) k) t.room)
    where
      part : (b : Bool) (n : ℕ) → cond b n 0 ≤ n
      part true n = omega arith
      part false n = omega arith

  -- what is little twice is so three times
  small-weaker : (k : List ℕ) (n : ℕ) → IsSmall key cuts 2 k n → IsSmall key cuts 3 k n
  small-weaker k n (inl z) = inl z
  small-weaker k n (inr h) = inr (h.0, h.1, h.2, omega (arith, h.3))

  -- one try more was cut
  module _ (p : P) (room : ℕ) where
    abbrev try : Try P
    try = record { place = p; room = room }

    abbrev cuts2 : List (Try P)
    cuts2 = cuts ++ try ∷ []

    pub spent-more : (k : List ℕ)
        → spent_on key cuts2 k ≡ spent_on key cuts k + cond (bytes_eq (key p) k) room 0
    spent-more k = sum_by_push (λ (t : Try P). cond (bytes_eq (key t.place) k) t.room 0) cuts try

    pub spent-else : (k : List ℕ) → bytes_eq (key p) k ≡ false
        → spent_on key cuts2 k ≡ spent_on key cuts k
    spent-else k e = omega (
      arith,
      spent-more k,
      ap (λ (b : Bool). cond b room 0) e,
    )

    pub spent-grows : (k : List ℕ) → spent_on key cuts k ≤ spent_on key cuts2 k
    spent-grows k = omega (arith, spent-more k)

    pub spent-here : spent_on key cuts2 (key p) ≡ spent_on key cuts (key p) + room
    spent-here = omega (
      arith,
      spent-more (key p),
      ap (λ (b : Bool). cond b room 0) ((bytes_eq-Decides (key p) (key p)).1 refl),
    )

    pub small-stays : (times : ℕ) (k : List ℕ) (n : ℕ) → IsSmall key cuts times k n
        → IsSmall key cuts2 times k n
    small-stays times k n (inl z) = inl z
    small-stays times k n (inr h) =
        inr (h.0, Contains-append_left cuts (try ∷ []) (h.0) (h.1), h.2, h.3)

    -- what is spent stays little, if so it is of the key of the place
    each-small : (times : ℕ) → ((k : List ℕ) → IsSmall key cuts times k (spent_on key cuts k))
        → IsSmall key cuts2 times (key p) (spent_on key cuts2 (key p))
        → (k : List ℕ) → IsSmall key cuts2 times k (spent_on key cuts2 k)
    each-small times before here k = by (bytes_eq (key p) k) refl
      where
        by : (b : Bool) → bytes_eq (key p) k ≡ b
            → IsSmall key cuts2 times k (spent_on key cuts2 k)
        by true e = subst (λ (j : List ℕ). IsSmall key cuts2 times j (spent_on key cuts2 j))
            ((bytes_eq-Decides (key p) k).0 e) here
        by false e = subst (λ (n : ℕ). IsSmall key cuts2 times k n) (sym (spent-else k e))
            (small-stays times k (spent_on key cuts k) (before k))

    -- the try had more room than all before
    pub small-more : ((k : List ℕ) → IsSmall key cuts 2 k (spent_on key cuts k))
        → spent_on key cuts (key p) < room
        → (k : List ℕ) → IsSmall key cuts2 2 k (spent_on key cuts2 k)
    small-more before less = each-small 2 before
        (inr (try, Contains-push cuts try, refl, omega (arith, spent-here, less)))

    pub small-once : ((k : List ℕ) → IsSmall key cuts 2 k (spent_on key cuts k))
        → (k : List ℕ) → IsSmall key cuts2 3 k (spent_on key cuts2 k)
    small-once before = each-small 3 (λ k. small-weaker k (spent_on key cuts k) (before k))
        (one (before (key p)))
      where
        less-or-not : (m n : ℕ) → (m ≤ n) ⊎ (n ≤ m)
        less-or-not zero n = inl (omega arith)
        less-or-not (suc m) zero = inr (omega arith)
        less-or-not (suc m) (suc n) = elim (less-or-not m n) [
          | inl l ↦ inl (omega (arith, l))
          | inr l ↦ inr (omega (arith, l))
        ]

        by : (t : Try P) → Contains cuts t → key t.place ≡ key p
            → spent_on key cuts (key p) ≤ 2 * t.room → (t.room ≤ room) ⊎ (room ≤ t.room)
            → IsSmall key cuts2 3 (key p) (spent_on key cuts2 (key p))
        by t c e h (inl i) =
            inr (try, Contains-push cuts try, refl, omega (arith, spent-here, h, i))
        by t c e h (inr i) = inr (
          t,
          Contains-append_left cuts (try ∷ []) t c,
          e,
          omega (arith, spent-here, h, i),
        )

        one : IsSmall key cuts 2 (key p) (spent_on key cuts (key p))
            → IsSmall key cuts2 3 (key p) (spent_on key cuts2 (key p))
        one (inl z) = inr (try, Contains-push cuts try, refl, omega (arith, spent-here, z))
        one (inr h) = by (h.0) (h.1) (h.2) (h.3) (less-or-not h.0.room room)

-- nothing was spent yet
pub none-spent : (spent : BTreeMap (Vec ℕ Global) ℕ) → spent.entries ≡ [] → (k : List ℕ)
    → spent_for spent k ≡ 0
none-spent spent e k = ap (λ (es : List (Vec ℕ Global × ℕ)).
    unwrap_or (lookup (is_at (λ (x : Vec ℕ Global). slice_cmp nat_cmp k x.items)) es) 0) e
