-- Pairing in carried order: each item takes the first of the others that fits it and is left.
use Rattle.std.specs.Prelude.{◌≡◌, ℕ, Bool, true, false, List, [], ◌∷◌, ◌++◌, Some, IsTrue}
use Rattle.std.specs.Prelude.{length, set, slice_get}
use Rattle.rpki_paths.specs.declared.pairs.PairFault.{PairFault}
use Rattle.rpki_paths.specs.declared.pairs.PairFault.TheVariants.{Unpaired, LeftOver, Memory}
use Rattle.rpki_paths.specs.Cert.{IsIn, NoTwice}
use Rattle.rpki_paths.specs.Pairing.{IsPairing}

-- The items that are not taken, where a flag of each says whether it is.
abbrev pub left_of : {A : Type 0} → List Bool → List A → List A
left_of [] ys = []
left_of (taken ∷ flags) [] = []
left_of (true ∷ flags) (y ∷ ys) = left_of flags ys
left_of (false ∷ flags) (y ∷ ys) = y ∷ left_of flags ys

-- `y` is the first of a list that fits, and `rest` is the list without it.
pub data IsFirst {A : Type 0} (P : A → Type 0) : A → List A → List A → Type 0 where
  first : {y : A} {ys : List A} → P y → IsFirst P y ys (y ∷ ys)
  later : {y z : A} {rest ys : List A} → ¬ (P z) → IsFirst P y rest ys →
      IsFirst P y (z ∷ rest) (z ∷ ys)

-- P holds of none of ys.
abbrev pub FitsNone : {A : Type 0} → (A → Type 0) → List A → Type 0
FitsNone {A} P ys = (y : A) → IsIn y ys → ¬ (P y)

-- The item at this place is the first that fits of those that were left, and its flag alone
-- changes.
abbrev pub IsTakenAt : {A : Type 0} → (A → Type 0) → List A → List Bool → List Bool → ℕ → Type 0
IsTakenAt {A} P ys old new place =
    (y : A) × (slice_get ys place ≡ Some y)
    × (slice_get old place ≡ Some false) × (new ≡ set old place true)
    × IsFirst P y (left_of new ys) (left_of old ys)

-- Each in turn takes the first that fits of those that are left: the partners, and what remains.
abbrev pub PairsOff : {A B : Type 0} → (A → B → Type 0) → List A → List B → List B → List B → Type 0
PairsOff R [] [] ys left = ys ≡ left
PairsOff R [] (p ∷ partners) ys left = ⊥
PairsOff R (x ∷ xs) [] ys left = ⊥
PairsOff {A} {B} R (x ∷ xs) (p ∷ partners) ys left =
    (rest : List B) × IsFirst (R x) p rest ys × PairsOff R xs partners rest left

-- The items at these places.
abbrev pub AreAt : {A : Type 0} → List A → List ℕ → List A → Type 0
AreAt ys [] [] = Unit {0}
AreAt ys [] (p ∷ items) = ⊥
AreAt ys (place ∷ places) [] = ⊥
AreAt ys (place ∷ places) (p ∷ items) = (slice_get ys place ≡ Some p) × AreAt ys places items

-- Whatever has the identifier that is sought also has the verdict.
abbrev pub AllVerify : {X Y : Type 0} → (X → List ℕ) → (Y → List ℕ) → (X → Y → Bool) → X → List Y →
    Type 0
AllVerify {X} {Y} sought held verdict x ys =
    (y : Y) → IsIn y ys → sought x ≡ held y → IsTrue (verdict x y)

-- Whatever has the identifier that one of them seeks also has the verdict.
abbrev pub AllVerifyEach : {X Y : Type 0} → (X → List ℕ) → (Y → List ℕ) → (X → Y → Bool) → List X →
    List Y → Type 0
AllVerifyEach {X} {Y} sought held verdict xs ys =
    (x : X) → IsIn x xs → AllVerify sought held verdict x ys

-- The places, of which none stands twice, are those of a pairing, in which each takes the first
-- that fits of those left.
pub record ArePaired {A B : Type 0} (R : A → B → Type 0) (xs : List A) (ys : List B)
    (places : List ℕ) : Type 0 where
  pub partners : List B
  pub at_places : AreAt ys places partners
  pub distinct : NoTwice places
  pub first : PairsOff R xs partners ys []
  pub pairing : IsPairing R xs partners ys

-- The items before this place each took the first that fits of those that were left, and none that
-- is left then fits the item at the place.
pub record FindsNone {A B : Type 0} (R : A → B → Type 0) (xs : List A) (ys : List B) (place : ℕ) :
    Type 0 where
  pub done : List A
  pub x : A
  pub more : List A
  pub partners : List B
  pub left : List B
  pub parts : xs ≡ done ++ x ∷ more
  pub at_place : length done ≡ place
  pub pairs : PairsOff R done partners ys left
  pub none : FitsNone (R x) left

-- Each took the first that fits of those that were left, and some are left over.
pub record LeavesSome {A B : Type 0} (R : A → B → Type 0) (xs : List A) (ys : List B) : Type 0 where
  pub partners : List B
  pub left : List B
  pub pairs : PairsOff R xs partners ys left
  pub some : ¬ (left ≡ [])

-- Why items are not paired off: the first that finds none, or those that are left over.
abbrev pub AreUnpaired : {A B : Type 0} → (A → B → Type 0) → List A → List B → PairFault → Type 0
AreUnpaired R xs ys (Unpaired place) = FindsNone R xs ys place
AreUnpaired R xs ys LeftOver = LeavesSome R xs ys
AreUnpaired R xs ys Memory = Unit {0}
