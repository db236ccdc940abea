-- The keys that were seen.
use Rattle.std.proofs.Common.{◌≡◌, ◌≢◌, ℕ, zero, suc, ◌+◌, ◌<◌, Bool, true, false, cond, List, []}
use Rattle.std.proofs.Common.{◌∷◌, length, get_or, ◌⊎◌, inl, inr, refl, sym, subst, ◌∙◌, arith}
use Rattle.std.proofs.Common.{Bor, nat_cmp, ltb}
use Rattle.std.specs.Cmp.{Equal-is}
use Rattle.std.specs.Ordering.{is_eq}
use Rattle.std.specs.Str.{bytes_eq}
use Rattle.std.specs.Cmp.Lexicographic.{slice_cmp}
use Rattle.std.specs.BTreeSet.{BTreeSet, Updates}
use Rattle.std.proofs.lemmas.Bool.{eq-eqb, ltb-true, ltb-false, cases_Bool}
use Rattle.std.proofs.lemmas.Map.Lookups.{exact_bytes}
use Rattle.std.proofs.lemmas.Map.Text.{is_eq-slice_cmp}
use Rattle.rpki_der.specs.Form.Keyed.{AreDistinct}
use Rattle.rpki_basics.proofs.OctetSets.{order, has_octets, slice}

-- the set has the keys of the first n items, and no two of these have the same
pub record SeenSoFar {I : Type 0} (key : I → List ℕ) (set : BTreeSet (Bor (List ℕ)))
    (list : List I) (n : ℕ) : Type 0 where
  pub one : (q : List ℕ) → has_octets set q ≡ true
      → (i : ℕ) × (i < n) × ((d : I) → key (get_or list i d) ≡ q)
  pub all : (i : ℕ) (d : I) → i < n → has_octets set (key (get_or list i d)) ≡ true
  pub distinct : (i j : ℕ) (d : I) → i < j → j < n
      → key (get_or list i d) ≢ key (get_or list j d)

-- ---- octets in order

order-is : (a b : List ℕ) → is_eq (slice_cmp nat_cmp a b) ≡ true → a ≡ b
order-is a b e = exact_bytes a b ((Equal-is (slice_cmp nat_cmp a b)).0 e)

bytes-self : (a : List ℕ) → bytes_eq a a ≡ true
bytes-self [] = refl
bytes-self (x ∷ a) = rw (eq-eqb x x refl) (bytes-self a)

order-self : (a : List ℕ) → is_eq (slice_cmp nat_cmp a a) ≡ true
order-self a = is_eq-slice_cmp a a ∙ bytes-self a

-- ---- the loop

some-item : {I : Type 0} (list : List I) (n : ℕ) → n < length list → I
some-item [] n lt = absurd (omega (arith, lt))
some-item (x ∷ list) n lt = x

pub seen-none : {I : Type 0} (key : I → List ℕ) (set : BTreeSet (Bor (List ℕ))) (list : List I)
    → set.keys ≡ [] → SeenSoFar key set list 0
seen-none key set list e = record {
  one = λ q h. absurd (let no : false ≡ true =
      subst (λ (ks : List (Bor (List ℕ))). has_octets (record { keys = ks }) q ≡ true) e h in
      cc);
  all = λ i d lt. absurd (omega (arith, lt));
  distinct = λ i j d lt le. absurd (omega (arith, le));
}

-- the item at a place, whatever stands for a place outside
pub item-at : {I : Type 0} (list : List I) (n : ℕ) (a b : I) → n < length list
    → get_or list n a ≡ get_or list n b
item-at [] n a b lt = absurd (omega (arith, lt))
item-at (x ∷ list) zero a b lt = refl
item-at (x ∷ list) (suc n) a b lt = item-at list n a b (omega (arith, lt))

module _ {I : Type 0} (key : I → List ℕ) (set : BTreeSet (Bor (List ℕ))) (list : List I) (n : ℕ)
    (lt : n < length list) (h : SeenSoFar key set list n) (k : Bor (List ℕ))
    (is : (d : I) → k.now ≡ key (get_or list n d)) where
  -- its key is there already
  pub seen-again : has_octets set k.now ≡ true → AreDistinct key list → ⊥
  seen-again e distinct =
      let d = some-item list n lt in
      let o = h.one k.now e in
      distinct o.0 n d o.1 lt (o.2 d ∙ is d)

  module _ (new : BTreeSet (Bor (List ℕ))) (u : Updates order set new k true)
      (fresh : has_octets set k.now ≡ false) where
    has-new : (q : List ℕ)
        → has_octets new q
        ≡ cond (is_eq (slice_cmp nat_cmp k.now q)) true (has_octets set q)
    has-new q = u.0 (slice q)

    one-by : (q : List ℕ) (b : Bool) → is_eq (slice_cmp nat_cmp k.now q) ≡ b
        → cond b true (has_octets set q) ≡ true
        → (i : ℕ) × (i < suc n) × ((d : I) → key (get_or list i d) ≡ q)
    one-by q true e t = (n, omega arith, λ d. sym (is d) ∙ order-is k.now q e)
    one-by q false e t = let o = h.one q t in (o.0, omega (arith, o.1), o.2)

    one-more : (q : List ℕ) → has_octets new q ≡ true
        → (i : ℕ) × (i < suc n) × ((d : I) → key (get_or list i d) ≡ q)
    one-more q t = one-by q (is_eq (slice_cmp nat_cmp k.now q)) refl (sym (has-new q) ∙ t)

    kept : (b c : Bool) → c ≡ true → cond b true c ≡ true
    kept true c e = refl
    kept false c e = e

    here : (b c : Bool) → b ≡ true → cond b true c ≡ true
    here true c e = refl
    here false c e = absurd cc

    cases : (i : ℕ) → i < suc n → (i < n) ⊎ (i ≡ n)
    cases i l = elim (cases_Bool (ltb i n)) [
      | inl t ↦ inl (ltb-true i n t)
      | inr f ↦ inr (let le = ltb-false i n f in omega (arith, le, l))
    ]

    all-more : (i : ℕ) (d : I) → i < suc n → has_octets new (key (get_or list i d)) ≡ true
    all-more i d l = elim (cases i l) [
      | inl a ↦
          has-new (key (get_or list i d))
          ∙ kept (is_eq (slice_cmp nat_cmp k.now (key (get_or list i d))))
          (has_octets set (key (get_or list i d))) (h.all i d a)
      | inr e ↦
          rw e (rw (← is d) (has-new k.now
          ∙ here (is_eq (slice_cmp nat_cmp k.now k.now)) (has_octets set k.now)
          (order-self k.now)))
    ]

    distinct-more : (i j : ℕ) (d : I) → i < j → j < suc n
        → key (get_or list i d) ≢ key (get_or list j d)
    distinct-more i j d a l = elim (cases j l) [
      | inl b ↦ h.distinct i j d a b
      | inr e ↦ λ q.
          let at : i < n = subst (λ (m : ℕ). i < m) e a in
          let same : key (get_or list i d) ≡ k.now =
          subst (λ (m : ℕ). key (get_or list i d) ≡ key (get_or list m d)) e q ∙ sym (is d) in
          let no : false ≡ true =
          sym fresh ∙ subst (λ (t : List ℕ). has_octets set t ≡ true) same (h.all i d at) in
          absurd cc
    ]

    pub seen-more : SeenSoFar key new list (n + 1)
    seen-more =
        let next : suc n ≡ n + 1 = omega arith in
        subst (λ (m : ℕ). SeenSoFar key new list m) next
        (record { one = one-more; all = all-more; distinct = distinct-more })
