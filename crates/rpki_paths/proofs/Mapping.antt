-- Pairings of handles are those of what they stand for.
use Rattle.std.proofs.Common.{◌≡◌, ℕ, suc, List, [], ◌∷◌, ◌++◌, map, refl}
use Rattle.std.proofs.Common.{sym, ap, ◌∙◌, subst, inl, inr, ◌↔◌, Bool}
use Rattle.std.specs.Prelude.{option_map}
use Rattle.std.proofs.lemmas.Option.{slice_get-map}
use Rattle.std.proofs.lemmas.List.{length-map}
use Rattle.rpki_paths.specs.declared.pairs.PairFault.{PairFault}
use Rattle.rpki_paths.specs.declared.pairs.PairFault.TheVariants.{Unpaired, LeftOver, Memory}
use Rattle.rpki_paths.specs.Cert.{Cert, IsIn, at_place}
use Rattle.rpki_paths.specs.Pairing.{IsPicked, here, there, IsPairing, Crl}
use Rattle.rpki_paths.specs.Pairing.{IsPair, HasKey, IsVerifiedBy, HasCrl}
use Rattle.rpki_paths.specs.Taking.{IsFirst, first, later, FitsNone, PairsOff, AreAt, ArePaired}
use Rattle.rpki_paths.specs.Taking.{AreUnpaired}
use Rattle.rpki_paths.specs.Walk.{placed}
use Rattle.rpki_paths.specs.Laws.{PairsAlongMap, PlacedAreAuthorities, UnmatchedIsNotAccepted}
use Rattle.rpki_paths.proofs.PairingOff.{unpaired_is_unpairable}
use Rattle.rpki_paths.proofs.Matches.{what_fits_is_alike}

map-more : {A B : Type 0} (f : A → B) (xs ys : List A) → map f (xs ++ ys) ≡ map f xs ++ map f ys
map-more f [] ys = refl
map-more f (x ∷ xs) ys = ap (λ l. f x ∷ l) (map-more f xs ys)

pub in-image : {A B : Type 0} (f : A → B) (xs : List A) (x : A) → IsIn x xs → IsIn (f x) (map f xs)
in-image f [] x i = absurd i
in-image f (y ∷ xs) x (inl e) = inl (ap f e)
in-image f (y ∷ xs) x (inr i) = inr (in-image f xs x i)

pub of-image : {A B : Type 0} (f : A → B) (xs : List A) (y : B) → IsIn y (map f xs)
    → (x : A) × IsIn x xs × (y ≡ f x)
of-image f [] y i = absurd i
of-image f (x ∷ xs) y (inl e) = (x, inl refl, e)
of-image f (x ∷ xs) y (inr i) = let t = of-image f xs y i in (t.0, inr t.1, t.2)

no-image : {A B : Type 0} (f : A → B) (xs : List A) → map f xs ≡ [] → xs ≡ []
no-image f [] e = refl
no-image f (x ∷ xs) e = absurd cc

map-picked : {A B : Type 0} (g : A → B) {p : A} {rest ys : List A} → IsPicked p rest ys
    → IsPicked (g p) (map g rest) (map g ys)
map-picked g here = here
map-picked g (there q) = there (map-picked g q)

map-at : {A B : Type 0} (g : A → B) (ys : List A) (places : List ℕ) (items : List A)
    → AreAt ys places items → AreAt (map g ys) places (map g items)
map-at g ys [] [] h = tt
map-at g ys [] (p ∷ items) h = absurd h
map-at g ys (k ∷ places) [] h = absurd h
map-at g ys (k ∷ places) (p ∷ items) h =
    (slice_get-map g ys k ∙ ap (option_map g) h.0, map-at g ys places items h.1)

module _ {X Y A B : Type 0} (f : X → A) (g : Y → B) (R : X → Y → Type 0) (S : A → B → Type 0)
    (same : (x : X) (y : Y) → R x y ↔ S (f x) (g y)) where
  pub map-first : (x : X) {p : Y} {rest ys : List Y} → IsFirst (R x) p rest ys
      → IsFirst (S (f x)) (g p) (map g rest) (map g ys)
  map-first x (first {y} h) = first ((same x y).0 h)
  map-first x (later {z} n h) = later (λ s. n ((same x z).1 s)) (map-first x h)

  pub map-none : (x : X) (ys : List Y) → FitsNone (R x) ys → FitsNone (S (f x)) (map g ys)
  map-none x ys none y i s =
      let t = of-image g ys y i in
      none t.0 t.1 ((same x t.0).1 (subst (λ z. S (f x) z) t.2 s))

  pub map-pairing : (xs : List X) (ps ys : List Y) → IsPairing R xs ps ys
      → IsPairing S (map f xs) (map g ps) (map g ys)
  map-pairing [] [] ys h = ap (map g) h
  map-pairing [] (p ∷ ps) ys h = absurd h
  map-pairing (x ∷ xs) [] ys h = absurd h
  map-pairing (x ∷ xs) (p ∷ ps) ys h = (
    (same x p).0 h.0,
    (map g h.1.0, map-picked g h.1.1, map-pairing xs ps h.1.0 h.1.2),
  )

  pub map-pairs : (xs : List X) (ps ys left : List Y) → PairsOff R xs ps ys left
      → PairsOff S (map f xs) (map g ps) (map g ys) (map g left)
  map-pairs [] [] ys left h = ap (map g) h
  map-pairs [] (p ∷ ps) ys left h = absurd h
  map-pairs (x ∷ xs) [] ys left h = absurd h
  map-pairs (x ∷ xs) (p ∷ ps) ys left h =
      (map g h.0, map-first x h.1, map-pairs xs ps h.0 left h.2)

  pub map-paired : (xs : List X) (ys : List Y) (places : List ℕ) → ArePaired R xs ys places
      → ArePaired S (map f xs) (map g ys) places
  map-paired xs ys places h = record {
    partners = map g h.partners;
    at_places = map-at g ys places h.partners h.at_places;
    distinct = h.distinct;
    first = map-pairs xs h.partners ys [] h.first;
    pairing = map-pairing xs h.partners ys h.pairing;
  }

  pub map-unpaired : (xs : List X) (ys : List Y) (fault : PairFault) → AreUnpaired R xs ys fault
      → AreUnpaired S (map f xs) (map g ys) fault
  map-unpaired xs ys (Unpaired place) h = record {
    done = map f h.done;
    x = f h.x;
    more = map f h.more;
    partners = map g h.partners;
    left = map g h.left;
    parts = ap (map f) h.parts ∙ map-more f h.done (h.x ∷ h.more);
    at_place = length-map h.done f ∙ h.at_place;
    pairs = map-pairs h.done h.partners ys h.left h.pairs;
    none = map-none h.x h.left h.none;
  }
  map-unpaired xs ys LeftOver h = record {
    partners = map g h.partners;
    left = map g h.left;
    pairs = map-pairs xs h.partners ys h.left h.pairs;
    some = λ e. h.some (no-image g h.left e);
  }
  map-unpaired xs ys Memory h = tt

pub pairs_along_map : {X Y A B : Type 0} (f : X → A) (g : Y → B) (R : X → Y → Type 0)
    (S : A → B → Type 0) → ((x : X) (y : Y) → R x y ↔ S (f x) (g y)) → PairsAlongMap f g R S
pairs_along_map f g R S same xs ys =
    (map-paired f g R S same xs ys, map-unpaired f g R S same xs ys)

-- handles that have the identifiers and the verdict of what they stand for are related as these are
pub same-pair : {X Y A B : Type 0} (f : X → A) (g : Y → B) (s : X → List ℕ) (h : Y → List ℕ)
    (v : X → Y → Bool) (t : A → List ℕ) (k : B → List ℕ) (w : A → B → Bool)
    → ((x : X) → s x ≡ t (f x)) → ((y : Y) → h y ≡ k (g y))
    → ((x : X) (y : Y) → v x y ≡ w (f x) (g y)) → (x : X) (y : Y)
    → IsPair s h v x y ↔ IsPair t k w (f x) (g y)
same-pair f g s h v t k w es eh ev x y = (
  λ p. (sym (es x) ∙ p.0 ∙ eh y, sym (ev x y) ∙ p.1),
  λ p. (es x ∙ p.0 ∙ sym (eh y), ev x y ∙ p.1),
)

-- ---- CAs with their CRLs

module _ {C R : Type 0} (cert : C → Cert) (crl : R → Crl) where
  pub placed_are_authorities : PlacedAreAuthorities cert crl
  placed_are_authorities n [] [] [] h = refl
  placed_are_authorities n [] [] (d ∷ with) h = absurd h
  placed_are_authorities n [] (l ∷ crls) with h = absurd h
  placed_are_authorities n (d ∷ cas) [] with h = absurd h
  placed_are_authorities n (d ∷ cas) (l ∷ crls) [] h = absurd h
  placed_are_authorities n (d ∷ cas) (l ∷ crls) (e ∷ with) h =
      ap (λ c. at_place n c ∷ placed cert (suc n) with) h.0
      ∙ ap (λ m. at_place n (record (cert d) { revokes = (crl l).serials }) ∷ m)
      (placed_are_authorities (suc n) cas crls with h.1)

-- ---- where they are not paired off

pub unmatched_is_not_accepted : UnmatchedIsNotAccepted
unmatched_is_not_accepted a fault paths dist other (inl h) acc =
    unpaired_is_unpairable HasKey a.signers a.subject_keys fault other h
    (what_fits_is_alike a dist).0 acc.found.matching.keys
unmatched_is_not_accepted a fault paths dist other (inr (inl h)) acc =
    unpaired_is_unpairable IsVerifiedBy a.signers a.ees fault other h
    (what_fits_is_alike a dist).1 (acc.found.ees, acc.found.matching.signed)
unmatched_is_not_accepted a fault paths dist other (inr (inr h)) acc =
    unpaired_is_unpairable HasCrl a.cas a.crls fault other h
    (what_fits_is_alike a dist).2 (acc.found.crls, acc.found.matching.crl_of)
