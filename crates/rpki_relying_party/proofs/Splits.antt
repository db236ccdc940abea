-- Lists that are cut at one element, and whose elements differ.
use Rattle.std.proofs.Common.{◌≡◌, ◌⊎◌, inl, inr, ℕ, suc, List, [], ◌∷◌, ◌++◌, Contains, refl, sym}
use Rattle.std.proofs.Common.{subst, ap, ◌∙◌, arith}
use Rattle.std.specs.Prelude.{AllPairs}
use Rattle.std.specs.List.{AllZip}
use Rattle.std.proofs.Common.{map}
use Rattle.std.proofs.lemmas.List.Elements.{Contains-append_right}
use Rattle.rpki_files.specs.Manifest.Uris.{UriAndHash}
use Rattle.rpki_relying_party.specs.Point.{AreOnce}
use Rattle.rpki_relying_party.specs.Lacks.{IsFirstRepeated}
use Rattle.rpki_relying_party.proofs.Lists.{nothing, contains-first, cons-cases, mapped-from}

module _ {X : Type 0} where
  heads : (x y : X) (xs ys : List X) → x ∷ xs ≡ y ∷ ys → x ≡ y
  heads x y xs ys e = cc

  tails : (x y : X) (xs ys : List X) → x ∷ xs ≡ y ∷ ys → xs ≡ ys
  tails x y xs ys e = cc

  -- a list that is cut twice is cut at one place, or one cut lies before the other
  pub cuts : (ks bs cs ds : List X) (x y : X) → ks ++ x ∷ bs ≡ cs ++ y ∷ ds
      → ((ks ≡ cs) × (x ≡ y))
      ⊎ (((more : List X) × (cs ≡ ks ++ x ∷ more)) ⊎ ((more : List X) × (ks ≡ cs ++ y ∷ more)))
  cuts [] bs [] ds x y e = inl (refl, heads x y bs ds e)
  cuts [] bs (c ∷ cs) ds x y e =
      inr (inl (cs, ap (λ (z : X). z ∷ cs) (sym (heads x c bs (cs ++ y ∷ ds) e))))
  cuts (a ∷ ks) bs [] ds x y e =
      inr (inr (ks, ap (λ (z : X). z ∷ ks) (heads a y (ks ++ x ∷ bs) ds e)))
  cuts (a ∷ ks) bs (c ∷ cs) ds x y e =
      let first : a ≡ c = heads a c (ks ++ x ∷ bs) (cs ++ y ∷ ds) e in
      elim (cuts ks bs cs ds x y (tails a c (ks ++ x ∷ bs) (cs ++ y ∷ ds) e)) [
        | inl same ↦ inl (λ i. first i ∷ same.0 i, same.1)
        | inr apart ↦ elim apart [
          | inl later ↦ inr (inl (later.0, λ i. sym first i ∷ later.1 i))
          | inr sooner ↦ inr (inr (sooner.0, λ i. first i ∷ sooner.1 i))
        ]
      ]

module _ {X : Type 0} (R : X → X → Type 0) where
  pub pairs-tail : (x : X) (xs : List X) → AllPairs R (x ∷ xs) → AllPairs R xs
  pairs-tail x xs h = λ i j d l m. h (suc i) (suc j) d (omega (arith, l)) (omega (arith, m))

  pub pairs-head : (x y : X) (xs : List X) → AllPairs R (x ∷ xs) → Contains xs y → R x y
  pairs-head x y xs h c =
      subst (λ (z : X). R x z) (c.2) (h 0 (suc (c.0)) y (omega arith) (omega (arith, c.1)))

  pub pairs-cut : (xs ys : List X) (x y : X) → AllPairs R (xs ++ y ∷ ys) → Contains xs x → R x y
  pairs-cut [] ys x y h c = absurd (nothing x c)
  pairs-cut (z ∷ xs) ys x y h c = elim (cons-cases z x xs c) [
    | inl e ↦ subst (λ (w : X). R w y) e (pairs-head z y (xs ++ y ∷ ys) h
        (Contains-append_right xs (y ∷ ys) y (contains-first y ys)))
    | inr there ↦ pairs-cut xs ys x y (pairs-tail z (xs ++ y ∷ ys) h) there
  ]

-- ---- files that are listed once

-- of each URI there is one
pub once-one : (listed : List UriAndHash) → AreOnce listed → (f g : UriAndHash)
    → Contains listed f → Contains listed g → f.0 ≡ g.0 → f ≡ g
once-one [] once f g c d e = absurd (nothing f c)
once-one (x ∷ xs) once f g c d e = elim (cons-cases x f xs c) [
  | inl p ↦ elim (cons-cases x g xs d) [
    | inl q ↦ sym p ∙ q
    | inr there ↦ absurd (pairs-head (λ (a b : UriAndHash). ¬ (a.0 ≡ b.0)) x g xs once there
        (ap (λ (a : UriAndHash). a.0) p ∙ e))
  ]
  | inr here ↦ elim (cons-cases x g xs d) [
    | inl q ↦ absurd (pairs-head (λ (a b : UriAndHash). ¬ (a.0 ≡ b.0)) x f xs once here
        (ap (λ (a : UriAndHash). a.0) q ∙ sym e))
    | inr there ↦ once-one xs (pairs-tail (λ (a b : UriAndHash). ¬ (a.0 ≡ b.0)) x xs once) f g
        here there e
  ]
]

-- none is repeated before the first that is
pub once-repeated : (listed : List UriAndHash) (uri : List ℕ) (h : IsFirstRepeated listed uri)
    (all more : List UriAndHash) → all ≡ h.before ++ h.file ∷ more → AreOnce all → ⊥
once-repeated listed uri h all more e once =
    let m = mapped-from (λ (f : UriAndHash). f.0) h.before uri h.repeats in
    pairs-cut (λ (a b : UriAndHash). ¬ (a.0 ≡ b.0)) h.before more (m.0) h.file
    (subst (λ (l : List UriAndHash). AreOnce l) e once) (m.1) (m.2 ∙ sym h.named)

-- and there is one first
pub one-repeated : (listed : List UriAndHash) (a b : List ℕ) → IsFirstRepeated listed a
    → IsFirstRepeated listed b → a ≡ b
one-repeated listed a b h g =
    elim (cuts h.before h.after g.before g.after h.file g.file (sym h.order ∙ g.order)) [
      | inl same ↦ sym h.named ∙ ap (λ (f : UriAndHash). f.0) (same.1) ∙ g.named
      | inr apart ↦ elim apart [
        | inl later ↦ absurd (once-repeated listed a h g.before (later.0) (later.1) g.once)
        | inr sooner ↦ absurd (once-repeated listed b g h.before (sooner.0) (sooner.1) h.once)
      ]
    ]

-- ---- lists whose elements are alike at each place

module _ {X : Type 0} (R : X → X → Type 0) where
  pub zip-append : (ks bs cs ds : List X) → AllZip R ks bs → AllZip R cs ds
      → AllZip R (ks ++ cs) (bs ++ ds)
  zip-append [] [] cs ds h g = g
  zip-append [] (b ∷ bs) cs ds h g = absurd h
  zip-append (a ∷ ks) [] cs ds h g = absurd h
  zip-append (a ∷ ks) (b ∷ bs) cs ds h g = (h.0, zip-append ks bs cs ds (h.1) g)

  pub zip-map : {A : Type 0} (f g : A → X) → ((a : A) → R (f a) (g a)) → (ks : List A)
      → AllZip R (map f ks) (map g ks)
  zip-map f g h [] = tt
  zip-map f g h (a ∷ ks) = (h a, zip-map f g h ks)

  pub zip-same : (ks bs cs ds : List X) → ks ≡ bs → cs ≡ ds → AllZip R bs ds → AllZip R ks cs
  zip-same ks bs cs ds p q h = subst (λ (l : List X). AllZip R l cs) (sym p)
      (subst (λ (l : List X). AllZip R bs l) (sym q) h)

pub zip-weaker : {X : Type 0} (R S : X → X → Type 0) → ((x y : X) → R x y → S x y)
    → (xs ys : List X) → AllZip R xs ys → AllZip S xs ys
zip-weaker R S f [] [] h = h
zip-weaker R S f [] (y ∷ ys) h = absurd h
zip-weaker R S f (x ∷ xs) [] h = absurd h
zip-weaker R S f (x ∷ xs) (y ∷ ys) h = (f x y (h.0), zip-weaker R S f xs ys (h.1))
