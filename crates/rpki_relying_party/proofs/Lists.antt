-- Lists: what they contain, what is mapped, and keys that differ.
use Rattle.std.proofs.Common.{◌≡◌, ◌<◌, ◌⊎◌, inl, inr, ℕ, zero, suc, List, [], ◌∷◌, ◌++◌, length}
use Rattle.std.proofs.Common.{Contains, All, map, refl, sym, subst, ap, arith, get_or, Bool}
use Rattle.std.specs.Prelude.{flat_map}
use Rattle.std.specs.List.{IsDistinct}
use Rattle.std.proofs.lemmas.List.Concat.{flat_map-cons}
use Rattle.std.proofs.lemmas.List.Elements.{All-contains, Contains-get_or}
use Rattle.std.proofs.lemmas.List.Elements.{Contains-append_left, Contains-append_right}
use Rattle.std.proofs.lemmas.List.Elements.{Contains-append_cases}

pub nothing : {X : Type 0} (x : X) → Contains [] x → ⊥
nothing x w = absurd (omega (arith, w.1))

-- what holds of whatever is contained holds of each
pub all-of : {X : Type 0} (P : X → Type 0) (xs : List X) → ((x : X) → Contains xs x → P x)
    → All P xs
all-of P xs f k d h = f (get_or xs k d) (Contains-get_or xs k d h)

pub contains-first : {X : Type 0} (x : X) (xs : List X) → Contains (x ∷ xs) x
contains-first x xs = (0, omega arith, refl)

pub contains-rest : {X : Type 0} (x y : X) (xs : List X) → Contains xs y → Contains (x ∷ xs) y
contains-rest x y xs c = (suc (c.0), omega (arith, c.1), c.2)

cons-at : {X : Type 0} (x y : X) (xs : List X) (k : ℕ) → k < length (x ∷ xs)
    → get_or (x ∷ xs) k y ≡ y → (x ≡ y) ⊎ Contains xs y
cons-at x y xs zero l e = inl e
cons-at x y xs (suc k) l e = inr (k, omega (arith, l), e)

pub cons-cases : {X : Type 0} (x y : X) (xs : List X) → Contains (x ∷ xs) y
    → (x ≡ y) ⊎ Contains xs y
cons-cases x y xs c = cons-at x y xs (c.0) (c.1) (c.2)

-- what is in a list with one element more
pub push-cases : {X : Type 0} (xs : List X) (x y : X) → Contains (xs ++ x ∷ []) y
    → Contains xs y ⊎ (y ≡ x)
push-cases xs x y c = elim (Contains-append_cases xs (x ∷ []) y c) [
  | inl there ↦ inl there
  | inr here ↦ elim (cons-cases x y [] here) [
    | inl e ↦ inr (sym e)
    | inr other ↦ absurd (nothing y other)
  ]
]

module _ {A B : Type 0} (f : A → B) where
  mapped-at : (xs : List A) (k : ℕ) (x : A) → k < length xs → get_or xs k x ≡ x
      → Contains (map f xs) (f x)
  mapped-at [] k x l e = absurd (omega (arith, l))
  mapped-at (y ∷ ys) zero x l e = (0, omega arith, ap f e)
  mapped-at (y ∷ ys) (suc k) x l e =
      contains-rest (f y) (f x) (map f ys) (mapped-at ys k x (omega (arith, l)) e)

  pub contains-mapped : (xs : List A) (x : A) → Contains xs x → Contains (map f xs) (f x)
  contains-mapped xs x c = mapped-at xs (c.0) x (c.1) (c.2)

  from-at : (xs : List A) (k : ℕ) (y : B) → k < length (map f xs) → get_or (map f xs) k y ≡ y
      → (x : A) × Contains xs x × (f x ≡ y)
  from-at [] k y l e = absurd (omega (arith, l))
  from-at (x ∷ xs) zero y l e = (x, contains-first x xs, e)
  from-at (x ∷ xs) (suc k) y l e =
      let r = from-at xs k y (omega (arith, l)) e in
      (r.0, contains-rest x (r.0) xs (r.1), r.2)

  pub mapped-from : (xs : List A) (y : B) → Contains (map f xs) y
      → (x : A) × Contains xs x × (f x ≡ y)
  mapped-from xs y c = from-at xs (c.0) y (c.1) (c.2)

pub distinct-none : {K : Type 0} (e : K → K → Bool) → IsDistinct e []
unfolding IsDistinct
distinct-none e = tt

-- what holds of the first of two lists that are joined
pub all-front : {X : Type 0} (P : X → Type 0) (xs ys : List X) → All P (xs ++ ys) → All P xs
all-front P xs ys h =
    all-of P xs (λ x c. All-contains P (xs ++ ys) x h (Contains-append_left xs ys x c))

-- what one element gives is among what all give
pub contains-flat : {X A : Type 0} (f : X → List A) (xs : List X) (x : X) (a : A) → Contains xs x
    → Contains (f x) a → Contains (flat_map f xs) a
contains-flat f [] x a c h = absurd (nothing x c)
contains-flat f (y ∷ ys) x a c h = subst (λ (l : List _). Contains l a) (sym (flat_map-cons f y ys))
    (elim (cons-cases y x ys c) [
      | inl s ↦ Contains-append_left (f y) (flat_map f ys) a
          (subst (λ (z : _). Contains (f z) a) (sym s) h)
      | inr r ↦ Contains-append_right (f y) (flat_map f ys) a (contains-flat f ys x a r h)
    ])
