-- Rows that are joined in a map: of each payload the one that holds longest.
use Rattle.std.proofs.Common.{◌≡◌, ◌↔◌, ◌⊎◌, inl, inr, ℕ, Bool, true, false, cond, List, [], ◌∷◌}
use Rattle.std.proofs.Common.{◌++◌, map, fold, Contains, All, Option, None, Some, refl, sym, ap, subst}
use Rattle.std.proofs.Common.{◌∙◌, ◌<◌, ◌≤◌, arith, not}
use Rattle.std.specs.BTreeMap.{BTreeMap, IsOrdered, Updates, get, keys, values}
use Rattle.std.specs.Cmp.{IsTotalOrder}
use Rattle.std.specs.List.Sorted.{IsStrictlySortedBy}
use Rattle.std.specs.Map.{keys_of, values_of}
use Rattle.std.specs.Ordering.{is_eq}
use Rattle.std.specs.declared.cmp.Ordering.{Ordering}
use Rattle.std.proofs.lemmas.Bool.{le-ltb, lt-ltb, ltb-false, ltb-true, true≢false}
use Rattle.std.proofs.lemmas.Cmp.{eq_by_cmp_equiv}
use Rattle.std.proofs.lemmas.List.Elements.{All-contains, All-cons, All-nil, Contains-append_cases}
use Rattle.std.proofs.lemmas.List.Elements.{Contains-append_right}
use Rattle.std.proofs.lemmas.List.Elements.{All-weaker}
use Rattle.std.proofs.lemmas.Map.Lookups.{CmpEqualImpliesEq}
use Rattle.std.proofs.lemmas.Map.Views.{btree_map_get_iff, tells_apart}
use Rattle.rpki_basics.specs.Moment.{Moment, stamp}
use Rattle.rpki_payloads.specs.Formats.Joined.{AreJoined, IsJoin, IsLongest, KeepsLongest}
use Rattle.rpki_payloads.specs.Formats.Joined.{kept_after, kept_of, longer, outlasts}
use Rattle.rpki_payloads.proofs.Elements.{first, first-or-later, from-mapped, later, mapped}
use Rattle.rpki_payloads.proofs.Elements.{no-element}

same-value : {X : Type 0} (x y : X) → Some x ≡ Some y → x ≡ y
same-value x y e = cc

-- ---- of two ends

abbrev End : Type 0
End = Option Moment

outlasts-asym : (a b : End) → outlasts a b ≡ true → outlasts b a ≡ false
outlasts-asym None None e = absurd (true≢false (sym e))
outlasts-asym None (Some n) e = refl
outlasts-asym (Some m) None e = absurd (true≢false (sym e))
outlasts-asym (Some m) (Some n) e =
    le-ltb (stamp m) (stamp n) (below (stamp n) (stamp m) (ltb-true (stamp n) (stamp m) e))
  where
    below : (x y : ℕ) → x < y → x ≤ y
    below x y h = omega (arith, h)

outlasts-self : (a : End) → outlasts a a ≡ false
outlasts-self None = refl
outlasts-self (Some m) = le-ltb (stamp m) (stamp m) (omega arith)

-- what outlasts an end outlasts each that does not outlast that end
outlasts-more : (a b c : End) → outlasts a b ≡ true → outlasts c b ≡ false
    → outlasts a c ≡ true
outlasts-more None None c e h = absurd (true≢false (sym e))
outlasts-more None (Some n) None e h = absurd (true≢false h)
outlasts-more None (Some n) (Some k) e h = refl
outlasts-more (Some m) None c e h = absurd (true≢false (sym e))
outlasts-more (Some m) (Some n) None e h = absurd (true≢false h)
outlasts-more (Some m) (Some n) (Some k) e h =
    lt-ltb (stamp k) (stamp m) (between (stamp k) (stamp n) (stamp m)
    (ltb-false (stamp n) (stamp k) h) (ltb-true (stamp n) (stamp m) e))
  where
    between : (x y z : ℕ) → x ≤ y → y < z → x < z
    between x y z p q = omega (arith, p, q)

outlasts-chain : (a b c : End) → outlasts a b ≡ true → outlasts b c ≡ true
    → outlasts a c ≡ true
outlasts-chain a b c e h = outlasts-more a b c e (outlasts-asym b c h)

-- ---- one row after the other

module _ {K R : Type 0} {cmp : K → K → Ordering} (o : IsTotalOrder cmp)
    (exact : CmpEqualImpliesEq cmp) (key : R → K) (until : R → Option Moment) where
  abbrev Best : Option R → R → R
  Best = longer cmp key until

  abbrev after : K → Option R → List R → Option R
  after k kept rows = fold (kept_after cmp key until k) kept rows

  same-key : (r : R) (k : K) → is_eq (cmp (key r) k) ≡ true → key r ≡ k
  same-key r k e = tells_apart exact (key r) k e

  own-key : (k : K) → is_eq (cmp k k) ≡ true
  own-key k = (eq_by_cmp_equiv o).refl k

  -- a map that keeps a row has at each payload what is kept after it
  pub kept-at : (r : R) (old new : BTreeMap K R) → KeepsLongest cmp key until r old new → (k : K)
      → get cmp new k ≡ kept_after cmp key until k (get cmp old k) r
  kept-at r old new h k = by (is_eq (cmp (key r) k)) refl
    where
      by : (b : Bool) → is_eq (cmp (key r) k) ≡ b
          → get cmp new k ≡ cond b (Some (Best (get cmp old k) r)) (get cmp old k)
      by true e = subst (λ (q : K). get cmp new q ≡ Some (Best (get cmp old q) r))
          (same-key r k e) h.here
      by false e = h.others k e

  -- a row that is longer than what was kept is put in its place
  pub put-longer : (r : R) (old new : BTreeMap K R) (k : K) (v : R) (kept : Option R)
      → Updates cmp old new k (Some v) → k ≡ key r → v ≡ r → get cmp old (key r) ≡ kept
      → Best kept r ≡ r → KeepsLongest cmp key until r old new
  put-longer r old new k v kept put at is was best = record {
    here = ap (λ (q : K). get cmp new q) (sym at) ∙ put.1
        ∙ ap Some (is ∙ sym best ∙ ap (λ (b : Option R). Best b r) (sym was));
    others = λ q e. put.2 q (ap (λ (j : K). is_eq (cmp j q)) at ∙ e);
  }

  pub longer-is : (q r : R) → not (outlasts (until r) (until q)) ≡ false → Best (Some q) r ≡ r
  longer-is q r e = by (outlasts (until r) (until q)) e
    where
      by : (b : Bool) → not b ≡ false → cond b r q ≡ r
      by true e = refl
      by false e = absurd (true≢false e)

  -- One row more is kept: what is kept after the others stays the same.
  pub kept-more : (r : R) (rest : List R) (old new : BTreeMap K R) (all : List R)
      → KeepsLongest cmp key until r old new
      → ((k : K) → after k (get cmp old k) (r ∷ rest) ≡ kept_of cmp key until k all)
      → (k : K) → after k (get cmp new k) rest ≡ kept_of cmp key until k all
  kept-more r rest old new all h is k =
      ap (λ (kept : Option R). after k kept rest) (kept-at r old new h k) ∙ is k

  -- ---- what is kept is the longest

  abbrev Beats : Option R → R → Type 0
  Beats None s = Unit {0}
  Beats (Some q) s = outlasts (until s) (until q) ≡ true

  -- which of what is kept and a row is the better one
  which : (b : Option R) (r s : R) → Best b r ≡ s
      → ((b ≡ Some s) × (outlasts (until r) (until s) ≡ false)) ⊎ ((r ≡ s) × Beats b s)
  which None r s e = inr (e, tt)
  which (Some q) r s e = by (outlasts (until r) (until q)) refl e
    where
      by : (t : Bool) → outlasts (until r) (until q) ≡ t → cond t r q ≡ s
          → ((Some q ≡ Some s) × (outlasts (until r) (until s) ≡ false))
          ⊎ ((r ≡ s) × Beats (Some q) s)
      by true t e = inr (e, subst (λ (x : R). outlasts (until x) (until q) ≡ true) e t)
      by false t e = inl (
        ap Some e,
        subst (λ (x : R). outlasts (until r) (until x) ≡ false) e t,
      )

  -- what outlasts the better of the two outlasts both
  beats-both : (b : Option R) (r s : R) → outlasts (until s) (until (Best b r)) ≡ true
      → Beats b s × (outlasts (until s) (until r) ≡ true)
  beats-both None r s h = (tt, h)
  beats-both (Some q) r s h = by (outlasts (until r) (until q)) refl h
    where
      by : (t : Bool) → outlasts (until r) (until q) ≡ t
          → outlasts (until s) (until (cond t r q)) ≡ true
          → (outlasts (until s) (until q) ≡ true) × (outlasts (until s) (until r) ≡ true)
      by true t h = (outlasts-chain (until s) (until r) (until q) h t, h)
      by false t h = (h, outlasts-more (until s) (until q) (until r) h t)

  -- a row is the longest of those of a payload, and the first of equals
  record IsBestAt (k : K) (said : List R) (s : R) : Type 0 where
    before : List R
    rest : List R
    cut : said ≡ before ++ s ∷ rest
    earlier : All (λ q. key q ≡ k → outlasts (until s) (until q) ≡ true) before
    longest : All (λ q. key q ≡ k → outlasts (until q) (until s) ≡ false) rest

  more-before : (k : K) (r : R) (es : List R) (s : R)
      → (key r ≡ k → outlasts (until s) (until r) ≡ true)
      → IsBestAt k es s → IsBestAt k (r ∷ es) s
  more-before k r es s h w = record {
    before = r ∷ w.before;
    rest = w.rest;
    cut = ap (λ (l : List R). r ∷ l) w.cut;
    earlier = All-cons (λ q. key q ≡ k → outlasts (until s) (until q) ≡ true) r w.before h
        w.earlier;
    longest = w.longest;
  }

  abbrev NoneLonger : K → List R → R → Type 0
  NoneLonger k es s = All (λ q. key q ≡ k → outlasts (until q) (until s) ≡ false) es

  -- it is the one that was kept already, or one of these
  abbrev Found : K → Option R → List R → R → Type 0
  Found k b es s = ((b ≡ Some s) × NoneLonger k es s)
      ⊎ ((key s ≡ k) × (Beats b s × IsBestAt k es s))

  run : (k : K) (es : List R) (b : Option R) (s : R) → after k b es ≡ Some s → Found k b es s
  run k [] b s e = inl (e, All-nil (λ q. key q ≡ k → outlasts (until q) (until s) ≡ false))
  run k (r ∷ es) b s e = by (λ c f. run k es c s f) (is_eq (cmp (key r) k)) refl e
    where
      other : is_eq (cmp (key r) k) ≡ false → key r ≡ k → ⊥
      other f same = true≢false (sym (own-key k)
          ∙ subst (λ (x : K). is_eq (cmp x k) ≡ false) same f)

      not-longer : outlasts (until r) (until s) ≡ false → NoneLonger k es s
          → NoneLonger k (r ∷ es) s
      not-longer f h =
          All-cons (λ q. key q ≡ k → outlasts (until q) (until s) ≡ false) r es (λ same. f) h

      here : key r ≡ k → (Some (Best b r) ≡ Some s) × NoneLonger k es s → Found k b (r ∷ es) s
      here same w = elim (which b r s (same-value (Best b r) s w.0)) [
        | inl old ↦ inl (old.0, not-longer old.1 w.1)
        | inr new ↦ inr (
          subst (λ (x : R). key x ≡ k) new.0 same,
          (
            new.1,
            record {
              before = [];
              rest = es;
              cut = ap (λ (x : R). x ∷ es) new.0;
              earlier = All-nil (λ q. key q ≡ k → outlasts (until s) (until q) ≡ true);
              longest = w.1;
            },
          ),
        )
      ]

      by : ((c : Option R) → after k c es ≡ Some s → Found k c es s)
          → (t : Bool) → is_eq (cmp (key r) k) ≡ t
          → after k (cond t (Some (Best b r)) b) es ≡ Some s → Found k b (r ∷ es) s
      by others true t e = elim (others (Some (Best b r)) e) [
        | inl w ↦ here (same-key r k t) w
        | inr w ↦ (let two = beats-both b r s w.1.0 in
            inr (w.0, (two.0, more-before k r es s (λ same. two.1) w.1.1)))
      ]
      by others false t e = elim (others b e) [
        | inl w ↦ inl (
          w.0,
          All-cons
              (λ q. key q ≡ k → outlasts (until q) (until s) ≡ false) r es
              (λ same. absurd (other t same)) w.1,
        )
        | inr w ↦ inr (w.0, (w.1.0, more-before k r es s (λ same. absurd (other t same)) w.1.1))
      ]

  -- what is kept at a payload is a row of it, the longest
  kept-is : (said : List R) (k : K) (s : R) → kept_of cmp key until k said ≡ Some s
      → (key s ≡ k) × IsLongest key until said s
  kept-is said k s e = elim (run k said None s e) [
    | inl w ↦ absurd (no w.0)
    | inr w ↦ (
      w.0,
      record {
        before = w.1.1.before;
        after = w.1.1.rest;
        cut = w.1.1.cut;
        first = All-weaker (λ q. key q ≡ k → outlasts (until s) (until q) ≡ true)
            (λ q. key q ≡ key s → outlasts (until s) (until q) ≡ true)
            (λ q h same. h (same ∙ w.0)) w.1.1.before w.1.1.earlier;
        longest = All-weaker (λ q. key q ≡ k → outlasts (until q) (until s) ≡ false)
            (λ q. key q ≡ key s → outlasts (until q) (until s) ≡ false)
            (λ q h same. h (same ∙ w.0)) w.1.1.rest w.1.1.longest;
      },
    )
  ]
    where
      no : None ≡ Some s → ⊥
      no e = cc

  -- ---- each has one

  abbrev IsKept : Option R → Type 0
  IsKept b = (s : R) × (b ≡ Some s)

  stays-kept : (k : K) (es : List R) (b : Option R) → IsKept b → IsKept (after k b es)
  stays-kept k [] b h = h
  stays-kept k (r ∷ es) b h = stays-kept k es (kept_after cmp key until k b r)
      (by (is_eq (cmp (key r) k)))
    where
      by : (t : Bool) → IsKept (cond t (Some (Best b r)) b)
      by true = (Best b r, refl)
      by false = h

  is-kept : (r : R) (es : List R) (b : Option R) → Contains es r → IsKept (after (key r) b es)
  is-kept r [] b h = absurd (no-element r h)
  is-kept r (q ∷ es) b h = elim (first-or-later q es r h) [
    | inl e ↦ stays-kept (key r) es (kept_after cmp key until (key r) b q)
        (by (is_eq (cmp (key q) (key r)))
        (subst (λ (x : R). is_eq (cmp (key x) (key r)) ≡ true) (sym e) (own-key (key r))))
    | inr l ↦ is-kept r es (kept_after cmp key until (key r) b q) l
  ]
    where
      by : (t : Bool) → t ≡ true → IsKept (cond t (Some (Best b q)) b)
      by true e = (Best b q, refl)
      by false e = absurd (true≢false (sym e))

  -- none that is said holds longer
  pub not-longer-than : (said : List R) (s r : R) → IsLongest key until said s → key r ≡ key s
      → Contains said r → outlasts (until r) (until s) ≡ false
  not-longer-than said s r w same h =
      elim (Contains-append_cases w.before (s ∷ w.after) r
      (subst (λ (l : List R). Contains l r) w.cut h)) [
        | inl b ↦ outlasts-asym (until s) (until r)
            (All-contains (λ q. key q ≡ key s → outlasts (until s) (until q) ≡ true) w.before r
            w.first b same)
        | inr a ↦ elim (first-or-later s w.after r a) [
          | inl e ↦ subst (λ (x : R). outlasts (until x) (until s) ≡ false) e
              (outlasts-self (until s))
          | inr l ↦ All-contains (λ q. key q ≡ key s → outlasts (until q) (until s) ≡ false)
              w.after r w.longest l same
        ]
      ]

  -- ---- the rows of the map

  row-of : (m : BTreeMap K R) → IsOrdered cmp m → (r : R) → Contains (values m) r
      → (k : K) × (get cmp m k ≡ Some r)
  row-of m sorted r h =
      let w = from-mapped (λ (e : K × R). e.1) m.entries r h in (
        w.0.0,
        (btree_map_get_iff o exact m sorted w.0.0 r).1
            (subst (λ (x : R). Contains m.entries (w.0.0, x)) (sym w.2) w.1),
      )

  has-row : (m : BTreeMap K R) → IsOrdered cmp m → (k : K) (r : R) → get cmp m k ≡ Some r
      → Contains (values m) r
  has-row m sorted k r e = mapped (λ (e : K × R). e.1) m.entries (k, r)
      ((btree_map_get_iff o exact m sorted k r).0 e)

  -- rows that stand at their payloads ascend as these do
  their-keys : (es : List (K × R)) → ((e : K × R) → Contains es e → key e.1 ≡ e.0)
      → map key (values_of es) ≡ keys_of es
  their-keys [] h = refl
  their-keys (e ∷ es) h = λ i.
      h e (first e es) i ∷ their-keys es (λ q c. h q (later e es q c)) i

  pub are-joined : (Says : R → Type 0) (said rows : List R) (m : BTreeMap K R)
      → ((r : R) → Contains said r ↔ Says r)
      → IsJoin cmp key until said m → IsOrdered cmp m → rows ≡ values m
      → AreJoined cmp key until Says said rows
  are-joined Says said rows m says joined sorted e =
      subst (λ (l : List R). AreJoined cmp key until Says said l) (sym e) (record {
        ascending = subst (λ (ks : List K). IsStrictlySortedBy cmp ks)
            (sym (their-keys m.entries own)) sorted;
        only = λ r h. (says r).0 (is-said r (longest-of r h));
        each = λ r h. has r ((says r).1 h);
        first = λ r h. longest-of r h;
      })
    where
      at : (k : K) (r : R) → get cmp m k ≡ Some r → (key r ≡ k) × IsLongest key until said r
      at k r h = kept-is said k r (sym (joined k) ∙ h)

      own : (e : K × R) → Contains m.entries e → key e.1 ≡ e.0
      own e h = (at e.0 e.1 ((btree_map_get_iff o exact m sorted e.0 e.1).1 h)).0

      longest-of : (r : R) → Contains (values m) r → IsLongest key until said r
      longest-of r h = let w = row-of m sorted r h in (at w.0 r w.1).1

      is-said : (r : R) → IsLongest key until said r → Contains said r
      is-said r w = subst (λ (l : List R). Contains l r) (sym w.cut)
          (Contains-append_right w.before (r ∷ w.after) r (first r w.after))

      has : (r : R) → Contains said r → (q : R) × Contains (values m) q
          × (key q ≡ key r) × (outlasts (until r) (until q) ≡ false)
      has r h =
          let w = is-kept r said None h in
          let q = at (key r) w.0 (joined (key r) ∙ w.1) in (
            w.0,
            has-row m sorted (key r) w.0 (joined (key r) ∙ w.1),
            q.0,
            not-longer-than said w.0 r q.1 (sym q.0) h,
          )
