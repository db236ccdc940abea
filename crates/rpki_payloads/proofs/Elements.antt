-- The elements of lists that are made from others.
use Rattle.std.proofs.Common.{◌≡◌, ◌⊎◌, ◌<◌, inl, inr, ℕ, zero, suc, Bool, true, false, cond}
use Rattle.std.proofs.Common.{List, [], ◌∷◌, map, filter, length, get_or, Contains, arith}
use Rattle.std.proofs.Common.{refl, sym, ap, subst, ◌∙◌}
use Rattle.std.specs.List.{flat_map}
use Rattle.std.specs.Map.{keys_of}
use Rattle.std.proofs.lemmas.Bool.{true≢false}
use Rattle.std.proofs.lemmas.List.Elements.{Contains-append_cases, Contains-append_left}
use Rattle.std.proofs.lemmas.List.Elements.{Contains-append_right}

module _ {X : Type 0} where
  at : (x : X) (xs : List X) (y : X) (k : ℕ) → k < length (x ∷ xs) → get_or (x ∷ xs) k y ≡ y
      → (x ≡ y) ⊎ Contains xs y
  at x xs y zero lt is = inl is
  at x xs y (suc k) lt is = inr (k, omega (arith, lt), is)

  -- an element is the first one, or one of the others
  pub first-or-later : (x : X) (xs : List X) (y : X) → Contains (x ∷ xs) y
      → (x ≡ y) ⊎ Contains xs y
  first-or-later x xs y h = at x xs y h.0 h.1 h.2

  pub first : (x : X) (xs : List X) → Contains (x ∷ xs) x
  first x xs = (0, omega arith, refl)

  pub later : (x : X) (xs : List X) (y : X) → Contains xs y → Contains (x ∷ xs) y
  later x xs y h = (suc h.0, omega (arith, h.1), h.2)

  pub no-element : (y : X) → Contains [] y → ⊥
  no-element y h = omega (arith, h.1)

module _ {X Y : Type 0} (f : X → Y) where
  pub mapped : (xs : List X) (x : X) → Contains xs x → Contains (map f xs) (f x)
  mapped [] x h = absurd (no-element x h)
  mapped (y ∷ ys) x h = elim (first-or-later y ys x h) [
    | inl e ↦ subst (λ (z : X). Contains (f y ∷ map f ys) (f z)) e (first (f y) (map f ys))
    | inr l ↦ later (f y) (map f ys) (f x) (mapped ys x l)
  ]

  pub from-mapped : (xs : List X) (y : Y) → Contains (map f xs) y
      → (x : X) × Contains xs x × (y ≡ f x)
  from-mapped [] y h = absurd (no-element y h)
  from-mapped (x ∷ xs) y h = elim (first-or-later (f x) (map f xs) y h) [
    | inl e ↦ (x, first x xs, sym e)
    | inr l ↦ (let w = from-mapped xs y l in (w.0, later x xs w.0 w.1, w.2))
  ]

module _ {X : Type 0} (p : X → Bool) where
  keep : (b : Bool) (x : X) (xs : List X) (y : X) → Contains (filter p xs) y
      → Contains (cond b (x ∷ filter p xs) (filter p xs)) y
  keep true x xs y h = later x (filter p xs) y h
  keep false x xs y h = h

  keep-first : (b : Bool) (x : X) (xs : List X) → b ≡ true
      → Contains (cond b (x ∷ filter p xs) (filter p xs)) x
  keep-first true x xs e = first x (filter p xs)
  keep-first false x xs e = absurd (true≢false (sym e))

  pub filtered : (xs : List X) (x : X) → Contains xs x → p x ≡ true → Contains (filter p xs) x
  filtered [] x h e = absurd (no-element x h)
  filtered (y ∷ ys) x h e = elim (first-or-later y ys x h) [
    | inl s ↦ subst (λ (z : X). Contains (filter p (y ∷ ys)) z) s
        (keep-first (p y) y ys (ap p s ∙ e))
    | inr l ↦ keep (p y) y ys x (filtered ys x l e)
  ]

  kept-cases : (b : Bool) (x : X) (xs : List X) (y : X) → p x ≡ b
      → Contains (cond b (x ∷ filter p xs) (filter p xs)) y
      → ((x ≡ y) × (p x ≡ true)) ⊎ Contains (filter p xs) y
  kept-cases true x xs y e h = elim (first-or-later x (filter p xs) y h) [
    | inl s ↦ inl (s, e)
    | inr l ↦ inr l
  ]
  kept-cases false x xs y e h = inr h

  pub from-filtered : (xs : List X) (y : X) → Contains (filter p xs) y
      → Contains xs y × (p y ≡ true)
  from-filtered [] y h = absurd (no-element y h)
  from-filtered (x ∷ xs) y h = elim (kept-cases (p x) x xs y refl h) [
    | inl s ↦ (
      subst (λ (z : X). Contains (x ∷ xs) z) s.0 (first x xs),
      subst (λ (z : X). p z ≡ true) s.0 s.1,
    )
    | inr l ↦ (let w = from-filtered xs y l in (later x xs y w.0, w.1))
  ]

module _ {X Y : Type 0} (f : X → List Y) where
  pub gathered : (xs : List X) (x : X) (y : Y) → Contains xs x → Contains (f x) y
      → Contains (flat_map f xs) y
  gathered [] x y h k = absurd (no-element x h)
  gathered (z ∷ zs) x y h k = elim (first-or-later z zs x h) [
    | inl e ↦ Contains-append_left (f z) (flat_map f zs) y
        (subst (λ (w : X). Contains (f w) y) (sym e) k)
    | inr l ↦ Contains-append_right (f z) (flat_map f zs) y (gathered zs x y l k)
  ]

  pub from-gathered : (xs : List X) (y : Y) → Contains (flat_map f xs) y
      → (x : X) × Contains xs x × Contains (f x) y
  from-gathered [] y h = absurd (no-element y h)
  from-gathered (x ∷ xs) y h = elim (Contains-append_cases (f x) (flat_map f xs) y h) [
    | inl l ↦ (x, first x xs, l)
    | inr r ↦ (let w = from-gathered xs y r in (w.0, later x xs w.0 w.1, w.2))
  ]

-- rows that are made of entries have their keys, also where some are left out
module _ {K V R : Type 0} (row : K × V → R) (key : R → K) (is : (e : K × V) → key (row e) ≡ e.0)
    (p : R → Bool) where
  pub keys-kept : (es : List (K × V))
      → map key (filter p (map row es)) ≡ keys_of (filter (λ e. p (row e)) es)
  keys-kept [] = refl
  keys-kept (e ∷ es) = by (keys-kept es) (p (row e))
    where
      by : map key (filter p (map row es)) ≡ keys_of (filter (λ e. p (row e)) es) → (b : Bool)
          → map key (cond b (row e ∷ filter p (map row es)) (filter p (map row es)))
          ≡ keys_of (cond b (e ∷ filter (λ e. p (row e)) es) (filter (λ e. p (row e)) es))
      by rest true = λ i. is e i ∷ rest i
      by rest false = rest
