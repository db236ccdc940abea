-- An item with a key is found, whatever the order, and what it says is understood.
use Rattle.std.proofs.Common.{◌≡◌, ◌≢◌, ℕ, zero, suc, true, false, List, [], ◌∷◌, ◌++◌}
use Rattle.std.proofs.Common.{Option, Some, None, inl, inr, refl, sym, ap, subst, ◌∙◌, arith}
use Rattle.std.specs.Prelude.{Decides, ◌⊎◌, All, Any, AllPairs}
use Rattle.std.specs.Str.{bytes_eq}
use Rattle.std.proofs.lemmas.Slice.Eq.{bytes_eq-Decides}
use Rattle.std.proofs.lemmas.List.Elements.{All-nil, All-cons, All-head, All-tail}
use Rattle.std.proofs.lemmas.List.Kept.{AllPairs-cons}
use Rattle.std.proofs.lemmas.Bool.{and_parts, cases_Bool, or_parts, not-true}
use Rattle.rpki_der.proofs.Reading.Lengths.{bind_some, some_is}
use Rattle.rpki_der.specs.Form.Keyed.{AreDistinct, Keyed, Once, SaysNothing, First, with_key}
use Rattle.rpki_der.specs.Form.Keyed.{has_key, are_distinct, said_of, said, only_one, said_once}
use Rattle.rpki_der.specs.Form.Keyed.{first_said, IsSaid}

-- ---- keys

same-is : (xs ys : List ℕ) → bytes_eq xs ys ≡ true → xs ≡ ys
same-is xs ys e = (bytes_eq-Decides xs ys).0 e

same-self : (xs ys : List ℕ) → xs ≡ ys → bytes_eq xs ys ≡ true
same-self xs ys e = (bytes_eq-Decides xs ys).1 e

pub differ : (xs ys : List ℕ) → bytes_eq xs ys ≡ false → xs ≢ ys
differ xs ys f e = let both : true ≡ false = sym (same-self xs ys e) ∙ f in absurd cc

differ-is : (xs ys : List ℕ) → xs ≢ ys → bytes_eq xs ys ≡ false
differ-is xs ys ne = elim (cases_Bool (bytes_eq xs ys)) [
  | inl t ↦ absurd (ne (same-is xs ys t))
  | inr f ↦ f
]

-- ---- some element

pub any-here : {I : Type 0} (P : I → Type 0) (x : I) (xs : List I) → P x → Any P (x ∷ xs)
any-here P x xs p = (zero, x, omega arith, refl, p)

pub any-there : {I : Type 0} (P : I → Type 0) (x : I) (xs : List I) → Any P xs → Any P (x ∷ xs)
any-there P x xs h = (suc h.0, h.1, omega (arith, h.2), h.3, h.4)

pub any-cases : {I : Type 0} (P : I → Type 0) (x : I) (xs : List I) → Any P (x ∷ xs)
    → P x ⊎ Any P xs
any-cases P x xs (zero, y, lt, is, p) = inl (subst P (sym is) p)
any-cases P x xs (suc k, y, lt, is, p) = inr (k, y, omega (arith, lt), is, p)

pub none-nil : {I : Type 0} (P : I → Type 0) → Any P [] → ⊥
none-nil P h = absurd (omega (arith, h.2))

pub none-both : {I : Type 0} (P Q : I → Type 0) (xs : List I) → ((x : I) → P x → Q x → ⊥) → Any P xs
    → All Q xs → ⊥
none-both P Q xs f h all = f h.1 h.4 (subst Q h.3 (all h.0 h.1 h.2))

pub pairs-head : {I : Type 0} (R : I → I → Type 0) (x : I) (xs : List I) → AllPairs R (x ∷ xs)
    → All (R x) xs
pairs-head R x xs h = λ k d lt. h zero (suc k) d (omega arith) (omega (arith, lt))

pub pairs-tail : {I : Type 0} (R : I → I → Type 0) (x : I) (xs : List I) → AllPairs R (x ∷ xs)
    → AllPairs R xs
pairs-tail R x xs h = λ i j d lt le. h (suc i) (suc j) d (omega (arith, lt)) (omega (arith, le))

-- what holds of all holds of some
any-of-all : {I : Type 0} (P Q : I → Type 0) (xs : List I) → Any P xs → All Q xs
    → Any (λ i. P i × Q i) xs
any-of-all P Q xs h all = (h.0, h.1, h.2, h.3, (h.4, subst Q h.3 (all h.0 h.1 h.2)))

-- ---- at most one of each key

module _ {I : Type 0} (key : I → List ℕ) where
  module _ (oid : List ℕ) where
    abbrev Other : I → Type 0
    Other i = key i ≢ oid

    here : (i : I) (items : List I) → bytes_eq (key i) oid ≡ true
        → with_key key oid (i ∷ items) ≡ Some i
    here i items t = rw t refl

    later : (i : I) (items : List I) → bytes_eq (key i) oid ≡ false
        → with_key key oid (i ∷ items) ≡ with_key key oid items
    later i items f = rw f refl

    with-none : (items : List I) → with_key key oid items ≡ None → All Other items
    with-none [] h = All-nil Other
    with-none (i ∷ items) h = elim (cases_Bool (bytes_eq (key i) oid)) [
      | inl t ↦ absurd (let both : (let n : Option I = None in
          n) ≡ Some i = sym h ∙ here i items t in cc)
      | inr f ↦ All-cons Other i items (differ (key i) oid f)
          (with-none items (sym (later i items f) ∙ h))
    ]

    with-some : (found : I) (items : List I) → with_key key oid items ≡ Some found
        → Any (λ i. (key i ≡ oid) × (i ≡ found)) items
    with-some found [] h = absurd cc
    with-some found (i ∷ items) h = elim (cases_Bool (bytes_eq (key i) oid)) [
      | inl t ↦ any-here (λ x. (key x ≡ oid) × (x ≡ found)) i items
          (same-is (key i) oid t, some_is i found (sym (here i items t) ∙ h))
      | inr f ↦ any-there (λ x. (key x ≡ oid) × (x ≡ found)) i items
          (with-some found items (sym (later i items f) ∙ h))
    ]

    none-with : (items : List I) → All Other items → with_key key oid items ≡ None
    none-with [] h = refl
    none-with (i ∷ items) h =
        later i items (differ-is (key i) oid (All-head Other i items h))
        ∙ none-with items (All-tail Other i items h)

    -- where no two have the same key, the one with this key is the first
    with-is : (P : I → Type 0) (items : List I) → AreDistinct key items
        → Any (λ i. (key i ≡ oid) × P i) items → (i : I) × (with_key key oid items ≡ Some i) × P i
    with-is P [] once h = absurd (none-nil (λ (i : I). (key i ≡ oid) × P i) h)
    with-is P (i ∷ items) once h = elim (cases_Bool (bytes_eq (key i) oid)) [
      | inl t ↦ elim (any-cases (λ (x : I). (key x ≡ oid) × P x) i items h) [
        | inl p ↦ (i, here i items t, p.1)
        | inr there ↦ absurd (none-both (λ (x : I). (key x ≡ oid) × P x)
            (λ x. key i ≢ key x) items (λ x p ne. ne (same-is (key i) oid t ∙ sym p.0)) there
            (pairs-head (λ (x y : I). key x ≢ key y) i items once))
      ]
      | inr f ↦ elim (any-cases (λ (x : I). (key x ≡ oid) × P x) i items h) [
        | inl p ↦ absurd (differ (key i) oid f p.0)
        | inr there ↦
            let r = with-is P items
            (pairs-tail (λ (x y : I). key x ≢ key y) i items once) there in
            (r.0, later i items f ∙ r.1, r.2)
      ]
    ]

    has-none : (items : List I) → has_key key oid items ≡ false → All Other items
    has-none [] e = All-nil Other
    has-none (i ∷ items) e =
        let p = or_parts (bytes_eq (key i) oid) (has_key key oid items) e in
        All-cons Other i items (differ (key i) oid p.0) (has-none items p.1)

    none-has : (items : List I) → All Other items → has_key key oid items ≡ false
    none-has [] h = refl
    none-has (i ∷ items) h =
        let f = differ-is (key i) oid (All-head Other i items h) in
        rw f (none-has items (All-tail Other i items h))

  turned : (x : I) (items : List I) → All (Other (key x)) items → All (λ y. key x ≢ key y) items
  turned x items h = λ k d lt. λ e. h k d lt (sym e)

  returned : (x : I) (items : List I) → All (λ y. key x ≢ key y) items → All (Other (key x)) items
  returned x items h = λ k d lt. λ e. h k d lt (sym e)

  -- the test tells whether no two have the same key
  pub distinct-decides : (items : List I) → Decides (are_distinct key items) (AreDistinct key items)
  unfolding are_distinct
  distinct-decides [] = ((λ _. λ i j d lt le. absurd (omega (arith, le))), λ _. refl)
  distinct-decides (i ∷ items) =
      let others = distinct-decides items in (
        (λ e.
            let p = and_parts _ _ e in
            AllPairs-cons (λ (x y : I). key x ≢ key y) i items
            (turned i items (has-none (key i) items (not-true _ p.0))) (others.0 p.1)),
        λ h.
            let f = none-has (key i) items
            (returned i items (pairs-head (λ (x y : I). key x ≢ key y) i items h)) in
            let r = others.1 (pairs-tail (λ (x y : I). key x ≢ key y) i items h) in
            rw f r,
      )

  -- ---- what an item says

  module _ {X : Type 0} {say : I → Option X} {Good : I → Type 0} {Say : I → X → Type 0}
      (e : IsSaid say Good Say) (oid : List ℕ) (items : List I) where
    said-at : All Good items → (a : Option I) (o : Option X) → with_key key oid items ≡ a
        → said_of say a ≡ Some o → Keyed key Say items oid o
    said-at good None None h k = with-none oid items h
    said-at good None (Some x) h k = absurd cc
    said-at good (Some i) o h k =
        let m = bind_some (say i) _ o k in
        let is : (let q : Option X = Some m.0 in q) ≡ o = some_is _ _ m.2 in
        let s = any-of-all (λ (x : I). (key x ≡ oid) × (x ≡ i)) Good items
        (with-some oid i items h) good in
        let here : Say s.1 m.0 = e.sound s.1 m.0 s.4.1 (ap say s.4.0.1 ∙ m.1) in
        subst (Keyed key Say items oid) is (s.0, s.1, s.2, s.3, (s.4.0.0, here))

    -- what is understood is what the item says
    pub said-sound : All Good items → (o : Option X) → said key say oid items ≡ Some o
        → Keyed key Say items oid o
    said-sound good o h = said-at good (with_key key oid items) o refl h

    -- what the item says is understood
    pub said-complete : AreDistinct key items → (o : Option X) → Keyed key Say items oid o
        → said key say oid items ≡ Some o
    said-complete once None h = rw (none-with oid items h) refl
    said-complete once (Some x) h =
        let v = with-is oid (λ i. Say i x) items once h in
        rw v.1 (rw (e.complete v.0 x v.2) refl)

  -- ---- exactly one of a key

  module _ (oid : List ℕ) where
    alone : (i : I) (items : List I) → bytes_eq (key i) oid ≡ true → has_key key oid items ≡ false
        → only_one key oid (i ∷ items) ≡ Some i
    alone i items t f = rw t (rw f refl)

    twice : (i : I) (items : List I) → bytes_eq (key i) oid ≡ true → has_key key oid items ≡ true
        → only_one key oid (i ∷ items) ≡ None
    twice i items t f = rw t (rw f refl)

    beyond : (i : I) (items : List I) → bytes_eq (key i) oid ≡ false
        → only_one key oid (i ∷ items) ≡ only_one key oid items
    beyond i items f = rw f refl

    only-sound : (items : List I) (found : I) → only_one key oid items ≡ Some found
        → Once key (λ i (u : Unit {0}). i ≡ found) items oid tt
    only-sound [] found h = absurd cc
    only-sound (i ∷ items) found h = elim (cases_Bool (bytes_eq (key i) oid)) [
      | inl t ↦ elim (cases_Bool (has_key key oid items)) [
        | inl u ↦ absurd (let both : (let n : Option I = None in
            n) ≡ Some found = sym (twice i items t u) ∙ h in cc)
        | inr f ↦ (
          [],
          i,
          items,
          refl,
          same-is (key i) oid t,
          All-nil (Other oid),
          has-none oid items f,
          some_is i found (sym (alone i items t f) ∙ h),
        )
      ]
      | inr f ↦
          let r = only-sound items found (sym (beyond i items f) ∙ h) in (
            i ∷ r.0,
            r.1,
            r.2,
            ap (λ (t : List I). i ∷ t) r.3,
            r.4,
            All-cons (Other oid) i r.0 (differ (key i) oid f) r.5,
            r.6,
            r.7,
          )
    ]

    only-complete : (before : List I) (item : I) (after : List I) → key item ≡ oid
        → All (Other oid) before → All (Other oid) after
        → only_one key oid (before ++ item ∷ after) ≡ Some item
    only-complete [] item after e b a =
        alone item after (same-self (key item) oid e) (none-has oid after a)
    only-complete (i ∷ before) item after e b a =
        beyond i (before ++ item ∷ after) (differ-is (key i) oid (All-head (Other oid) i before b))
        ∙ only-complete before item after e (All-tail (Other oid) i before b) a

  of-all : (P : I → Type 0) (before : List I) (item : I) (after : List I)
      → All P (before ++ item ∷ after) → P item
  of-all P [] item after h = All-head P item after h
  of-all P (i ∷ before) item after h =
      of-all P before item after (All-tail P i (before ++ item ∷ after) h)

  module _ {X : Type 0} {say : I → Option X} {Good : I → Type 0} {Say : I → X → Type 0}
      (e : IsSaid say Good Say) (oid : List ℕ) (items : List I) where
    -- what is understood of the only item with this key is what it says
    pub once-sound : All Good items → (x : X) → said_once key say oid items ≡ Some x
        → Once key Say items oid x
    once-sound good x h =
        let s = bind_some (only_one key oid items) (λ i. say i) x h in
        let o = only-sound oid items s.0 s.1 in
        let fine : Good o.1 = of-all Good o.0 o.1 o.2 (subst (All Good) o.3 good) in
        (o.0, o.1, o.2, o.3, o.4, o.5, o.6, e.sound o.1 x fine (ap say o.7 ∙ s.2))

    -- what it says is understood
    pub once-complete : (x : X) → Once key Say items oid x → said_once key say oid items ≡ Some x
    once-complete x h =
        let found : only_one key oid items ≡ Some h.1 =
        rw h.3 (only-complete oid h.0 h.1 h.2 h.4 h.5 h.6) in
        rw found (e.complete h.1 x h.7)

-- ---- the first that says something

module _ {I X : Type 0} {say : I → Option X} {Good : I → Type 0} {Say : I → X → Type 0}
    (e : IsSaid say Good Say) where
  says-nothing : (i : I) → say i ≡ None → SaysNothing Say i
  says-nothing i none = λ x g. let both : (let n : Option X = None in
      n) ≡ Some x = sym none ∙ e.complete i x g in absurd (some-none both)
    where
      some-none : {A : Type 0} {a : A} → (let n : Option A = None in n) ≡ Some a → ⊥
      some-none q = cc

  nothing-said : (i : I) (o : Option X) → Good i → say i ≡ o → SaysNothing Say i → say i ≡ None
  nothing-said i None good h g = h
  nothing-said i (Some x) good h g = absurd (g x (e.sound i x good h))

  pass-by : (i : I) (items : List I) → say i ≡ None
      → first_said say (i ∷ items) ≡ first_said say items
  pass-by i items h = rw h refl

  stop-at : (i : I) (items : List I) (x : X) → say i ≡ Some x → first_said say (i ∷ items) ≡ Some x
  stop-at i items x h = rw h refl

  after-it : (i : I) (items : List I) → say i ≡ None → (o : Option X) → First Say items o
      → First Say (i ∷ items) o
  after-it i items h None g = All-cons (SaysNothing Say) i items (says-nothing i h) g
  after-it i items h (Some x) g = (
    i ∷ g.0,
    g.1,
    g.2,
    ap (λ (t : List I). i ∷ t) g.3,
    All-cons (SaysNothing Say) i g.0 (says-nothing i h) g.4,
    g.5,
  )

  first-step : (i : I) (items : List I) (o : Option X) → Good i → say i ≡ o
      → First Say items (first_said say items) → First Say (i ∷ items) (first_said say (i ∷ items))
  first-step i items None good h g =
      subst (First Say (i ∷ items)) (sym (pass-by i items h))
      (after-it i items h (first_said say items) g)
  first-step i items (Some x) good h g =
      subst (First Say (i ∷ items)) (sym (stop-at i items x h))
      ([], i, items, refl, All-nil (SaysNothing Say), e.sound i x good h)

  -- what is found is the first
  pub first-sound : (items : List I) → All Good items → First Say items (first_said say items)
  first-sound [] good = All-nil (SaysNothing Say)
  first-sound (i ∷ items) good =
      first-step i items (say i) (All-head Good i items good) refl
      (first-sound items (All-tail Good i items good))

  past : (before : List I) (item : I) (after : List I) (x : X) → All Good before
      → All (SaysNothing Say) before → Say item x → first_said say (before ++ item ∷ after) ≡ Some x
  past [] item after x good all g = stop-at item after x (e.complete item x g)
  past (i ∷ before) item after x good all g =
      pass-by i (before ++ item ∷ after)
      (nothing-said i (say i) (All-head Good i before good) refl
      (All-head (SaysNothing Say) i before all))
      ∙ past before item after x (All-tail Good i before good)
      (All-tail (SaysNothing Say) i before all) g

  none-first : (items : List I) → All Good items → All (SaysNothing Say) items
      → first_said say items ≡ None
  none-first [] good h = refl
  none-first (i ∷ items) good h =
      pass-by i items (nothing-said i (say i) (All-head Good i items good) refl
      (All-head (SaysNothing Say) i items h))
      ∙ none-first items (All-tail Good i items good) (All-tail (SaysNothing Say) i items h)

  before-good : (before after : List I) → All Good (before ++ after) → All Good before
  before-good [] after h = All-nil Good
  before-good (i ∷ before) after h =
      All-cons Good i before (All-head Good i (before ++ after) h)
      (before-good before after (All-tail Good i (before ++ after) h))

  -- the first is found
  pub first-complete : (items : List I) (o : Option X) → All Good items → First Say items o
      → first_said say items ≡ o
  first-complete items None good h = none-first items good h
  first-complete items (Some x) good h =
      rw h.3 (past h.0 h.1 h.2 x (before-good h.0 (h.1 ∷ h.2) (subst (All Good) h.3 good)) h.4 h.5)
