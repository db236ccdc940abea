-- Items that pair off in turn: what is paired so far, and why there is no pairing where it stops.
use Rattle.std.proofs.Common.{◌≡◌, ℕ, zero, suc, ◌+◌, ◌<◌, ◌≤◌, Bool, true, false, List}
use Rattle.std.proofs.Common.{[], ◌∷◌, ◌++◌, length, take, drop, replicate, Some, set, ◌⊎◌}
use Rattle.std.proofs.Common.{refl}
use Rattle.std.proofs.Common.{sym, ap, ◌∙◌, subst, inl, inr, arith}
use Rattle.std.specs.Prelude.{slice_get}
use Rattle.std.proofs.lemmas.List.{take_all, length-take-le}
use Rattle.rpki_paths.specs.declared.pairs.PairFault.TheVariants.{Unpaired, LeftOver, Memory}
use Rattle.rpki_paths.specs.Cert.{IsIn, NoTwice}
use Rattle.rpki_paths.specs.Pairing.{IsPicked, here, there, IsPairing, IsPairable, AreAlike}
use Rattle.rpki_paths.specs.Taking.{left_of, IsFirst, first, later, FitsNone, IsTakenAt, PairsOff}
use Rattle.rpki_paths.specs.Taking.{AreAt, ArePaired, FindsNone, LeavesSome}
use Rattle.rpki_paths.specs.Laws.{FirstFitsFindPairing, LeftOverIsUnpairable, UnpairedIsUnpairable}
use Rattle.rpki_paths.proofs.Pairings.{picked-in, picked-sub, any_choice_pairs}

-- ---- the first that fits is picked

module _ {A : Type 0} (P : A → Type 0) where
  pub first-picked : {y : A} {rest ys : List A} → IsFirst P y rest ys → IsPicked y rest ys
  first-picked (first p) = here
  first-picked (later n f) = there (first-picked f)

  pub first-fits : {y : A} {rest ys : List A} → IsFirst P y rest ys → P y
  first-fits (first p) = p
  first-fits (later n f) = first-fits f

length-picked : {A : Type 0} {x : A} {r xs : List A} → IsPicked x r xs
    → length xs ≡ suc (length r)
length-picked here = refl
length-picked (there p) = ap suc (length-picked p)

-- what a loan of a whole list writes back
pub written-back : {A : Type 0} (n : ℕ) (new old : List A) → length new ≡ length old
    → length new ≤ n → take n (new ++ drop (length new) old) ≡ new
written-back {A} n new old e le = ap (take n) (all-written new old e) ∙ take_all n new le
  where
    all-written : (xs ys : List A) → length xs ≡ length ys → xs ++ drop (length xs) ys ≡ xs
    all-written [] [] f = refl
    all-written [] (y ∷ ys) f = absurd (omega (arith, f))
    all-written (x ∷ xs) [] f = absurd (omega (arith, f))
    all-written (x ∷ xs) (y ∷ ys) f = ap (λ l. x ∷ l) (all-written xs ys (omega (arith, f)))

-- the others after the item at a place
pub split-at : {A : Type 0} (xs : List A) (i : ℕ) (x : A) → slice_get xs i ≡ Some x
    → (more : List A) × (take i xs ++ x ∷ more ≡ xs)
split-at [] i x e = absurd cc
split-at (y ∷ xs) zero x e = (xs, ap (λ z. z ∷ xs) (let s : x ≡ y = cc in s))
split-at (y ∷ xs) (suc i) x e =
    let t = split-at xs i x e in (t.0, ap (λ l. y ∷ l) t.1)

pub left-all : {A : Type 0} (ys : List A) → left_of (replicate (length ys) false) ys ≡ ys
left-all [] = refl
left-all (y ∷ ys) = ap (λ l. y ∷ l) (left-all ys)

pub left-in : {A : Type 0} (flags : List Bool) (ys : List A) (y : A) → IsIn y (left_of flags ys)
    → IsIn y ys
left-in [] ys y i = absurd i
left-in (t ∷ flags) [] y i = absurd i
left-in (true ∷ flags) (z ∷ ys) y i = inr (left-in flags ys y i)
left-in (false ∷ flags) (z ∷ ys) y (inl e) = inl e
left-in (false ∷ flags) (z ∷ ys) y (inr i) = inr (left-in flags ys y i)

pub at-more : {A : Type 0} (ys : List A) (places : List ℕ) (items : List A) (place : ℕ) (p : A)
    → AreAt ys places items → slice_get ys place ≡ Some p
    → AreAt ys (places ++ place ∷ []) (items ++ p ∷ [])
at-more ys [] [] place p h e = (e, tt)
at-more ys [] (q ∷ items) place p h e = absurd h
at-more ys (k ∷ places) [] place p h e = absurd h
at-more ys (k ∷ places) (q ∷ items) place p h e = (h.0, at-more ys places items place p h.1 e)

-- ---- whether places are taken

set-keeps : (flags : List Bool) (i k : ℕ) → slice_get flags k ≡ Some true
    → slice_get (set flags i true) k ≡ Some true
set-keeps [] i k e = absurd cc
set-keeps (m ∷ flags) zero zero e = refl
set-keeps (m ∷ flags) zero (suc k) e = e
set-keeps (m ∷ flags) (suc i) zero e = e
set-keeps (m ∷ flags) (suc i) (suc k) e = set-keeps flags i k e

set-here : (flags : List Bool) (i : ℕ) → slice_get flags i ≡ Some false
    → slice_get (set flags i true) i ≡ Some true
set-here [] i e = absurd cc
set-here (m ∷ flags) zero e = refl
set-here (m ∷ flags) (suc i) e = set-here flags i e

-- these places are taken
abbrev pub AreTaken : List Bool → List ℕ → Type 0
AreTaken flags places = (k : ℕ) → IsIn k places → slice_get flags k ≡ Some true

in-more : {A : Type 0} (xs : List A) (x k : A) → IsIn k (xs ++ x ∷ []) → IsIn k xs ⊎ (k ≡ x)
in-more [] x k (inl e) = inr e
in-more [] x k (inr i) = absurd i
in-more (y ∷ xs) x k (inl e) = inl (inl e)
in-more (y ∷ xs) x k (inr i) = elim (in-more xs x k i) [ inl j ↦ inl (inr j) | inr e ↦ inr e ]

no-twice-more : {A : Type 0} (xs : List A) (x : A) → NoTwice xs → ¬ (IsIn x xs)
    → NoTwice (xs ++ x ∷ [])
no-twice-more [] x h n = (λ i. i, tt)
no-twice-more (y ∷ xs) x h n = (
  λ i. elim (in-more xs x y i) [ inl j ↦ h.0 j | inr e ↦ n (inl (sym e)) ],
  no-twice-more xs x h.1 (λ i. n (inr i)),
)

not-taken : (flags : List Bool) (place : ℕ) → slice_get flags place ≡ Some false
    → ¬ (slice_get flags place ≡ Some true)
not-taken flags place e f = absurd cc

module _ {A B : Type 0} (R : A → B → Type 0) where
  -- one more takes the first that fits
  pub pairs-more : (xs : List A) (ps ys left rest : List B) (x : A) (p : B)
      → PairsOff R xs ps ys left → IsFirst (R x) p rest left
      → PairsOff R (xs ++ x ∷ []) (ps ++ p ∷ []) ys rest
  pairs-more [] [] ys left rest x p h f =
      (rest, subst (λ l. IsFirst (R x) p rest l) (sym h) f, refl)
  pairs-more [] (q ∷ ps) ys left rest x p h f = absurd h
  pairs-more (z ∷ xs) [] ys left rest x p h f = absurd h
  pairs-more (z ∷ xs) (q ∷ ps) ys left rest x p h f =
      (h.0, h.1, pairs-more xs ps h.0 left rest x p h.2 f)

  pub pairs-length : (xs : List A) (ps ys left : List B) → PairsOff R xs ps ys left
      → length ys ≡ length xs + length left
  pairs-length [] [] ys left h =
      let same : length ys ≡ length left = ap (λ (l : List B). length l) h in omega (arith, same)
  pairs-length [] (q ∷ ps) ys left h = absurd h
  pairs-length (z ∷ xs) [] ys left h = absurd h
  pairs-length (z ∷ xs) (q ∷ ps) ys left h =
      omega (
        arith,
        length-picked (first-picked (R z) h.1),
        pairs-length xs ps h.0 left h.2,
      )

  pub pairing-length : (xs : List A) (ps ys : List B) → IsPairing R xs ps ys
      → length xs ≡ length ys
  pairing-length [] [] ys h = ap (λ (l : List B). length l) (sym h)
  pairing-length [] (p ∷ ps) ys h = absurd h
  pairing-length (x ∷ xs) [] ys h = absurd h
  pairing-length (x ∷ xs) (p ∷ ps) ys h =
      omega (arith, pairing-length xs ps h.1.0 h.1.2, length-picked h.1.1)

  -- what pairs off to the end is a pairing
  pub pairs_are_pairing : (xs : List A) (ps ys : List B) → PairsOff R xs ps ys []
      → IsPairing R xs ps ys
  pairs_are_pairing [] [] ys h = h
  pairs_are_pairing [] (p ∷ ps) ys h = absurd h
  pairs_are_pairing (x ∷ xs) [] ys h = absurd h
  pairs_are_pairing (x ∷ xs) (p ∷ ps) ys h = (
    first-fits (R x) h.1,
    (h.0, first-picked (R x) h.1, pairs_are_pairing xs ps h.0 h.2),
  )

  alike-tail : (x : A) (xs : List A) (p : B) (rest ys : List B) → AreAlike R (x ∷ xs) ys
      → IsPicked p rest ys → AreAlike R xs rest
  alike-tail x xs p rest ys alike pick y y' z z' i i' j j' =
      alike y y' z z' (inr i) (inr i') (picked-sub pick z j) (picked-sub pick z' j')

  no-partner : (x : A) (more : List A) (ps ys left : List B) → ys ≡ left → FitsNone (R x) left
      → ¬ (IsPairing R (x ∷ more) ps ys)
  no-partner x more [] ys left h none pairing = pairing
  no-partner x more (p ∷ ps) ys left h none pairing =
      none p (subst (λ l. IsIn p l) h (picked-in pairing.1.1)) pairing.0

  -- where none that is left fits the next, there is no pairing
  pub unpairable : (done : List A) (x : A) (more : List A) (ps ys left : List B)
      → PairsOff R done ps ys left → AreAlike R (done ++ x ∷ more) ys → FitsNone (R x) left
      → ¬ (IsPairable R (done ++ x ∷ more) ys)
  unpairable [] x more [] ys left h alike none pairable =
      no-partner x more pairable.0 ys left h none pairable.1
  unpairable [] x more (q ∷ ps) ys left h alike none pairable = absurd h
  unpairable (d ∷ done) x more [] ys left h alike none pairable = absurd h
  unpairable (d ∷ done) x more (q ∷ ps) ys left h alike none pairable =
      let pick = first-picked (R d) h.1 in
      unpairable done x more ps h.0 left h.2
      (alike-tail d (done ++ x ∷ more) q h.0 ys alike pick) none
      (any_choice_pairs R d q (done ++ x ∷ more) ys h.0 alike pairable pick
      (first-fits (R d) h.1))

  pub finds-partner : FirstFitsFindPairing R
  finds-partner done x more ps ys left h alike pairable none =
      unpairable done x more ps ys left h alike none pairable

  -- the middle of a pairing: what is taken so far, and what is left
  pub record IsPairingOff (xs : List A) (ys : List B) (flags : List Bool) (places : List ℕ)
      (i : ℕ) : Type 0 where
    pub partners : List B
    pub at_places : AreAt ys places partners
    pub distinct : NoTwice places
    pub taken : AreTaken flags places
    pub pairs : PairsOff R (take i xs) partners ys (left_of flags ys)

  pub pairing-none : (xs : List A) (ys : List B) (flags : List Bool) (places : List ℕ)
      → flags ≡ replicate (length ys) false → places ≡ [] → IsPairingOff xs ys flags places 0
  pairing-none xs ys flags places e f = record {
    partners = [];
    at_places = subst (λ l. AreAt ys l []) (sym f) tt;
    distinct = subst (λ l. NoTwice l) (sym f) tt;
    taken = subst (λ l. AreTaken flags l) (sym f) (λ k j. absurd j);
    pairs = sym (ap (λ m. left_of m ys) e ∙ left-all ys);
  }

  pub pairing-more : (xs : List A) (ys : List B) (old new : List Bool) (places : List ℕ) (i : ℕ)
      (x : A) (place : ℕ) (next : List ℕ) → IsPairingOff xs ys old places i
      → take (i + 1) xs ≡ take i xs ++ x ∷ [] → IsTakenAt (R x) ys old new place
      → next ≡ places ++ place ∷ [] → IsPairingOff xs ys new next (i + 1)
  pairing-more xs ys old new places i x place next w e t f = record {
    partners = w.partners ++ t.0 ∷ [];
    at_places = subst (λ l. AreAt ys l (w.partners ++ t.0 ∷ [])) (sym f)
        (at-more ys places w.partners place t.0 w.at_places t.1);
    distinct = subst (λ l. NoTwice l) (sym f)
        (no-twice-more places place w.distinct (λ j. not-taken old place t.2 (w.taken place j)));
    taken = subst (λ l. AreTaken new l) (sym f)
        (λ k j. subst (λ m. slice_get m k ≡ Some true) (sym t.3)
        (elim (in-more places place k j) [
          | inl h ↦ set-keeps old place k (w.taken k h)
          | inr e ↦ subst (λ n. slice_get (set old place true) n ≡ Some true) (sym e)
              (set-here old place t.2)
        ]));
    pairs = subst (λ l. PairsOff R l (w.partners ++ t.0 ∷ []) ys (left_of new ys)) (sym e)
        (pairs-more (take i xs) w.partners ys (left_of old ys) (left_of new ys) x t.0 w.pairs t.4);
  }

  pub pairing-stops : (xs : List A) (ys : List B) (flags : List Bool) (places : List ℕ) (i : ℕ)
      (x : A) (more : List A) → IsPairingOff xs ys flags places i → i < length xs
      → take i xs ++ x ∷ more ≡ xs → FitsNone (R x) (left_of flags ys) → FindsNone R xs ys i
  pairing-stops xs ys flags places i x more w lt e none = record {
    done = take i xs;
    x = x;
    more = more;
    partners = w.partners;
    left = left_of flags ys;
    parts = sym e;
    at_place = length-take-le i xs (omega (arith, lt));
    pairs = w.pairs;
    none = none;
  }

  pub pairing-leaves : (xs : List A) (ys : List B) (flags : List Bool) (places : List ℕ) (i : ℕ)
      → IsPairingOff xs ys flags places i → take i xs ≡ xs → length xs < length ys
      → LeavesSome R xs ys
  pairing-leaves xs ys flags places i w e lt =
      let pairs : PairsOff R xs w.partners ys (left_of flags ys) =
      subst (λ l. PairsOff R l w.partners ys (left_of flags ys)) e w.pairs in
      record {
        partners = w.partners;
        left = left_of flags ys;
        pairs = pairs;
        some = λ empty.
            (let n : length (left_of flags ys) ≡ 0 = ap (λ (l : List B). length l) empty in
            absurd (omega (arith, lt, n, pairs-length xs w.partners ys (left_of flags ys) pairs)));
      }

  -- what is left over has no partner
  pub left_over_is_unpairable : LeftOverIsUnpairable R
  left_over_is_unpairable xs ps ys [] h some pairable = some refl
  left_over_is_unpairable xs ps ys (y ∷ left) h some pairable =
      omega (
        arith,
        pairs-length xs ps ys (y ∷ left) h,
        pairing-length xs pairable.0 ys pairable.1,
      )

  pub unpaired_is_unpairable : UnpairedIsUnpairable R
  unpaired_is_unpairable xs ys (Unpaired place) other h alike pairable =
      unpairable h.done h.x h.more h.partners ys h.left h.pairs
      (subst (λ l. AreAlike R l ys) h.parts alike) h.none
      (subst (λ l. IsPairable R l ys) h.parts pairable)
  unpaired_is_unpairable xs ys LeftOver other h alike pairable =
      left_over_is_unpairable xs h.partners ys h.left h.pairs h.some pairable
  unpaired_is_unpairable xs ys Memory other h alike pairable = other refl

  none-remains : (ys : List B) → length ys ≡ 0 → ys ≡ []
  none-remains [] e = refl
  none-remains (y ∷ ys) e = absurd (omega (arith, e))

  pub pairing-done : (xs : List A) (ys : List B) (flags : List Bool) (places : List ℕ) (i : ℕ)
      → IsPairingOff xs ys flags places i → take i xs ≡ xs → length ys ≤ length xs
      → ArePaired R xs ys places
  pairing-done xs ys flags places i w e le =
      let pairs : PairsOff R xs w.partners ys (left_of flags ys) =
      subst (λ l. PairsOff R l w.partners ys (left_of flags ys)) e w.pairs in
      let empty : left_of flags ys ≡ [] = none-remains (left_of flags ys)
      (omega (arith, le, pairs-length xs w.partners ys (left_of flags ys) pairs)) in
      let all : PairsOff R xs w.partners ys [] =
      subst (λ l. PairsOff R xs w.partners ys l) empty pairs in
      record {
        partners = w.partners;
        at_places = w.at_places;
        distinct = w.distinct;
        first = all;
        pairing = pairs_are_pairing xs w.partners ys all;
      }
