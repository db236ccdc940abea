-- Where items that one fits are alike, any choice that fits leaves the others to be paired.
use Rattle.std.proofs.Common.{◌≡◌, List, [], ◌∷◌, refl, sym, ap, subst, inl, inr, ◌⊎◌}
use Rattle.rpki_paths.specs.Cert.{IsIn}
use Rattle.rpki_paths.specs.Pairing.{IsPicked, here, there, IsPairing, IsPairable, AreAlike}
use Rattle.rpki_paths.specs.Laws.{AnyChoicePairs}

-- ---- picking

pub picked-in : {A : Type 0} {x : A} {r xs : List A} → IsPicked x r xs → IsIn x xs
picked-in here = inl refl
picked-in (there p) = inr (picked-in p)

pub picked-sub : {A : Type 0} {x : A} {r xs : List A} → IsPicked x r xs → (z : A) → IsIn z r
    → IsIn z xs
picked-sub here z i = inr i
picked-sub (there p) z (inl e) = inl e
picked-sub (there p) z (inr i) = inr (picked-sub p z i)

-- two picks, one after the other, in the other order
pick-swap : {A : Type 0} {x y : A} {r s xs : List A} → IsPicked x r xs → IsPicked y s r
    → (t : List A) × IsPicked y t xs × IsPicked x s t
pick-swap {x} {s} here q = (x ∷ s, there q, here)
pick-swap (there {xs} p) here = (xs, here, p)
pick-swap (there {y = z} p) (there q) = let t = pick-swap p q in (z ∷ t.0, there t.1, there t.2)

-- two picks from one list: the same rest, or each item stands in the other's rest
pub pick-two : {A : Type 0} {x y : A} {r s xs : List A} → IsPicked x r xs → IsPicked y s xs
    → ((x ≡ y) × (r ≡ s)) ⊎ ((t : List A) × IsPicked y t r × IsPicked x t s)
pick-two here here = inl (refl, refl)
pick-two here (there {rest} q) = inr (rest, q, here)
pick-two (there {rest} p) here = inr (rest, here, p)
pick-two (there {y = z} p) (there q) =
    elim (pick-two p q) [
      | inl e ↦ inl (e.0, ap (λ l. z ∷ l) e.1)
      | inr t ↦ inr
          (z ∷ t.0, there t.1, there t.2)
    ]

-- ---- pairing

-- a pairing, whatever the partners
abbrev pub IsPaired : {A B : Type 0} → (A → B → Type 0) → List A → List B → Type 0
IsPaired R [] ys = ys ≡ []
IsPaired {A} {B} R (x ∷ xs) ys = (y : B) × (rest : List B) × IsPicked y rest ys × R x y
    × IsPaired R xs rest

module _ {A : Type 0} (S : A → A → Type 0) where
  paired-refl : ((x : A) → S x x) → (xs : List A) → IsPaired S xs xs
  paired-refl r [] = refl
  paired-refl r (x ∷ xs) = (x, xs, here, r x, paired-refl r xs)

  -- one item taken out of the first list has its partner in the second
  paired-out : {x : A} {r xs : List A} → IsPicked x r xs → (ys : List A) → IsPaired S xs ys
      → (y : A) × (s : List A) × IsPicked y s ys × S x y × IsPaired S r s
  paired-out here ys h = h
  paired-out (there p) ys h =
      let t = paired-out p h.1 h.4 in
      let w = pick-swap h.2 t.2 in
      (t.0, w.0, w.1, t.3, (h.0, t.1, w.2, h.3, t.4))

  paired-in : {x y : A} {r xs : List A} → IsPicked x r xs → (s ys : List A) → IsPicked y s ys
      → S x y → IsPaired S r s → IsPaired S xs ys
  paired-in {y} here s ys q e h = (y, s, q, e, h)
  paired-in (there p) s ys q e h =
      let w = pick-swap q h.2 in
      (h.0, w.0, w.1, h.3, paired-in p h.1 w.0 w.2 e h.4)

module _ {A B : Type 0} (R : A → B → Type 0) (S : B → B → Type 0) where
  -- a pairing, and then one of the partners
  paired-then : (xs : List A) (ys zs : List B)
      → ((x : A) (y z : B) → IsIn x xs → R x y → S y z → R x z) → IsPaired R xs ys
      → IsPaired S ys zs → IsPaired R xs zs
  paired-then [] ys zs j h k = subst (λ l. IsPaired S l zs) h k
  paired-then (x ∷ xs) ys zs j h k =
      let t = paired-out S h.2 zs k in (
        t.0,
        t.1,
        t.2,
        j x h.0 t.0 (inl refl) h.3 t.3,
        paired-then xs h.1 t.1 (λ x' y z i. j x' y z (inr i)) h.4 t.4,
      )

module _ {A B : Type 0} (R : A → B → Type 0) where
  -- a pairing, with and without its partners
  pub from-pairing : (xs : List A) (ps ys : List B) → IsPairing R xs ps ys → IsPaired R xs ys
  from-pairing [] [] ys h = h
  from-pairing [] (p ∷ ps) ys h = absurd h
  from-pairing (x ∷ xs) [] ys h = absurd h
  from-pairing (x ∷ xs) (p ∷ ps) ys h = (p, h.1.0, h.1.1, h.0, from-pairing xs ps h.1.0 h.1.2)

  pub to-pairing : (xs : List A) (ys : List B) → IsPaired R xs ys → IsPairable R xs ys
  to-pairing [] ys h = ([], h)
  to-pairing (x ∷ xs) ys h = let t = to-pairing xs h.1 h.4 in (h.0 ∷ t.0, (h.3, (h.1, h.2, t.1)))

  -- ---- any choice

  any-choice : (x : A) (y : B) (xs : List A) (ys rest : List B) → AreAlike R (x ∷ xs) ys
      → IsPaired R (x ∷ xs) ys → IsPicked y rest ys → R x y → IsPaired R xs rest
  any-choice x y xs ys rest alike h pick fit =
      let Same : B → B → Type 0 = λ z w. (x' : A) → IsIn x' (x ∷ xs) → R x' z → R x' w in
      let alike_here : Same y h.0 =
      λ x' i f. alike x x' y h.0 (inl refl) i (picked-in pick) (picked-in h.2) fit h.3 f in
      let moved : IsPaired Same h.1 rest =
      elim (pick-two h.2 pick) [
        | inl e ↦ subst (λ l. IsPaired Same h.1 l) e.1 (paired-refl Same (λ z x' i f. f) h.1)
        | inr u ↦ paired-in Same u.1 u.0 rest u.2 alike_here (paired-refl Same (λ z x' i f. f) u.0)
      ] in
      paired-then R Same xs h.1 rest (λ z w w' i f s. s z (inr i) f) h.4 moved

  pub any_choice_pairs : AnyChoicePairs R
  any_choice_pairs x y xs ys rest alike h pick fit =
      to-pairing xs rest (any-choice x y xs ys rest alike
      (from-pairing (x ∷ xs) h.0 ys h.1) pick fit)

  -- ---- who is whose partner

  -- each item has a partner
  pub partner : (xs : List A) (ps ys : List B) → IsPairing R xs ps ys → (y : B) → IsIn y ys
      → (x : A) × IsIn x xs × R x y
  partner [] [] ys h y i = absurd (subst (λ l. IsIn y l) h i)
  partner [] (p ∷ ps) ys h y i = absurd h
  partner (x ∷ xs) [] ys h y i = absurd h
  partner (x ∷ xs) (p ∷ ps) ys h y i =
      elim (split-in h.1.1 y i) [
        | inl e ↦ (x, inl refl, subst (λ q. R x q) (sym e) h.0)
        | inr j ↦ (let t = partner xs ps h.1.0 h.1.2 y j in (t.0, inr t.1, t.2))
      ]
    where
      split-in : {B : Type 0} {p : B} {r zs : List B} → IsPicked p r zs → (y : B) → IsIn y zs
          → (y ≡ p) ⊎ IsIn y r
      split-in here y i = i
      split-in (there q) y (inl e) = inr (inl e)
      split-in (there q) y (inr i) = elim (split-in q y i) [ inl e ↦ inl e | inr j ↦ inr (inr j) ]

  -- all of the second list are partners
  pub all-partners : (xs : List A) (ps ys : List B) → IsPairing R xs ps ys → (y : B) → IsIn y ys
      → IsIn y ps
  all-partners [] [] ys h y i = absurd (subst (λ l. IsIn y l) h i)
  all-partners [] (p ∷ ps) ys h y i = absurd h
  all-partners (x ∷ xs) [] ys h y i = absurd h
  all-partners (x ∷ xs) (p ∷ ps) ys h y i =
      elim (split-in h.1.1 y i) [ inl e ↦ inl e | inr j ↦ inr (all-partners xs ps h.1.0 h.1.2 y j) ]
    where
      split-in : {B : Type 0} {q : B} {r zs : List B} → IsPicked q r zs → (z : B) → IsIn z zs
          → (z ≡ q) ⊎ IsIn z r
      split-in here z j = j
      split-in (there u) z (inl e) = inr (inl e)
      split-in (there u) z (inr j) = elim (split-in u z j) [ inl e ↦ inl e | inr k ↦ inr (inr k) ]

  pub partners-in : (xs : List A) (ps ys : List B) → IsPairing R xs ps ys → (y : B) → IsIn y ps
      → IsIn y ys
  partners-in [] [] ys h y i = absurd i
  partners-in [] (p ∷ ps) ys h y i = absurd h
  partners-in (x ∷ xs) [] ys h y i = absurd i
  partners-in (x ∷ xs) (p ∷ ps) ys h y (inl e) = subst (λ z. IsIn z ys) (sym e) (picked-in h.1.1)
  partners-in (x ∷ xs) (p ∷ ps) ys h y (inr i) =
      picked-sub h.1.1 y (partners-in xs ps h.1.0 h.1.2 y i)
