-- Blocks of numbers, as a set: f tells the number of an end.
use Rattle.std.specs.Prelude.{◌≡◌, ℕ, ◌+◌, ◌<◌, ◌≤◌, All, List, [], ◌∷◌, Bool, nat_le, ◌&&◌}
use Rattle.std.specs.Prelude.{◌||◌}
use Rattle.std.specs.Prelude.{IsTrue}
use Rattle.std.specs.List.{list_any}
use Rattle.rpki_resources.specs.declared.block.Block.{Block}

-- whether a number is one from lo to hi
unfoldable pub is_between : ℕ → ℕ → ℕ → Bool
is_between lo hi n = nat_le lo n && nat_le n hi

-- whether a number lies in a block
abbrev pub within : {T : Type 0} → (T → ℕ) → ℕ → Block T → Bool
within f n b = is_between (f b.min) (f b.max) n

-- whether a number lies in one of the blocks
abbrev pub holds : {T : Type 0} → (T → ℕ) → List (Block T) → ℕ → Bool
holds f bs n = list_any (within f n) bs

-- The number is in one of the blocks.
abbrev pub Holds : {T : Type 0} → (T → ℕ) → List (Block T) → ℕ → Type 0
Holds f bs n = IsTrue (holds f bs n)

-- each number of the second set is in the first
abbrev pub Covers : {T : Type 0} → (T → ℕ) → List (Block T) → List (Block T) → Type 0
Covers f outer inner = (n : ℕ) → Holds f inner n → Holds f outer n

-- The blocks ascend from a number on. None is empty, and a number at least lies between two of
-- them.
abbrev pub RisesFrom : {T : Type 0} → (T → ℕ) → ℕ → List (Block T) → Type 0
RisesFrom f a [] = Unit {0}
RisesFrom f a (b ∷ bs) = (a ≤ f b.min) × (f b.min ≤ f b.max) × RisesFrom f (f b.max + 2) bs

-- The blocks ascend, none is empty, and no two of them overlap or touch, so each set of numbers has
-- one list of blocks alone (RFC 3779, sections 2.2.3.6 and 3.2.3.4).
abbrev pub IsCanonical : {T : Type 0} → (T → ℕ) → List (Block T) → Type 0
IsCanonical f bs = RisesFrom f 0 bs

-- the lower end is not above the upper end
abbrev pub IsBlock : {T : Type 0} → (T → ℕ) → Block T → Type 0
IsBlock f b = f b.min ≤ f b.max

-- no block reaches up to a limit
abbrev pub EndBelow : {T : Type 0} → (T → ℕ) → ℕ → List (Block T) → Type 0
EndBelow f limit bs = All (λ b. f b.max < limit) bs

-- Both lists of blocks have the same numbers.
abbrev pub SameSet : {T : Type 0} → (T → ℕ) → List (Block T) → List (Block T) → Type 0
SameSet f xs ys = (n : ℕ) → holds f xs n ≡ holds f ys n

-- zs has just the numbers that are in both xs and ys
abbrev pub IsIntersection : {T : Type 0} → (T → ℕ) → List (Block T) → List (Block T)
    → List (Block T) → Type 0
IsIntersection f xs ys zs = (n : ℕ) → holds f zs n ≡ (holds f xs n && holds f ys n)

-- zs has just the numbers that are in xs or ys, or in both
abbrev pub IsUnion : {T : Type 0} → (T → ℕ) → List (Block T) → List (Block T) → List (Block T)
    → Type 0
IsUnion f xs ys zs = (n : ℕ) → holds f zs n ≡ (holds f xs n || holds f ys n)

-- the sorted, joined blocks of the numbers in these blocks
pub record IsSetOf (list set : List (Block ℕ)) : Type 0 where
  pub canonical : IsCanonical (λ n. n) set
  pub same : SameSet (λ n. n) set list
