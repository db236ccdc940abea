-- ascending blocks
use Rattle.std.proofs.Common.{◌≡◌, ℕ, ◌+◌, ◌<◌, ◌≤◌, List, [], ◌∷◌, Bool, true, false, ◌||◌, arith}
use Rattle.std.proofs.Common.{inl, inr, refl, All}
use Rattle.std.proofs.lemmas.List.Elements.{All-nil, All-cons}
use Rattle.std.proofs.lemmas.Bool.{or_cases, or_left, or_right}
use Rattle.std.proofs.lemmas.Bool.Decides.{leb_tells}
use Rattle.rpki_resources.specs.declared.block.Block.{Block}
use Rattle.rpki_resources.specs.Blocks.{within, holds, Holds, Covers, RisesFrom}
use Rattle.rpki_resources.proofs.Sets.Between.{between-in, between-before, between-after}
use Rattle.rpki_resources.proofs.Sets.Between.{between-low, between-high}

-- no number below the first block is held
pub holds-below : {T : Type 0} (f : T → ℕ) (a n : ℕ) (bs : List (Block T)) → RisesFrom f a bs
    → n < a → holds f bs n ≡ false
holds-below f a n [] r l = refl
holds-below f a n (b ∷ bs) r l =
    rw (between-before (f b.min) (f b.max) n (omega arith))
    (holds-below f (f b.max + 2) n bs r.2 (omega arith))

pub rises-weaker : {T : Type 0} (f : T → ℕ) (a c : ℕ) (bs : List (Block T)) → a ≤ c
    → RisesFrom f c bs → RisesFrom f a bs
rises-weaker f a c [] l r = tt
rises-weaker f a c (b ∷ bs) l r = (omega arith, r.1, r.2)

pub clash : (x : Bool) → x ≡ true → x ≡ false → ⊥
clash x e d = cc

-- a held number is not below
pub held-above : {T : Type 0} (f : T → ℕ) (a n : ℕ) (bs : List (Block T)) → RisesFrom f a bs
    → Holds f bs n → a ≤ n
held-above f a n bs r h =
    elim (leb_tells a n) [
      | inl p ↦ p.1
      | inr q ↦ absurd
          (clash (holds f bs n) h (holds-below f a n bs r q.1))
    ]

-- The first block of the outer set ends before the inner set begins
pub covers-later : {T : Type 0} (f : T → ℕ) (a b : Block T) (x y : List (Block T))
    → RisesFrom f 0 (b ∷ y) → f a.max < f b.min → Covers f (a ∷ x) (b ∷ y) → Covers f x (b ∷ y)
covers-later f a b x y r l c n h =
    let above : f b.min ≤ n = held-above f (f b.min) n (b ∷ y) (omega arith, r.1, r.2) h in
    let k : (within f n a || holds f x n) ≡ true = c n h in
    rw (between-after (f a.min) (f a.max) n (omega arith)) at k

pub covers-more : {T : Type 0} (f : T → ℕ) (a : Block T) (x ys : List (Block T)) → Covers f x ys
    → Covers f (a ∷ x) ys
covers-more f a x ys c n h = or_right (within f n a) (holds f x n) (c n h)

-- the first block of the inner set lies in that of the outer set
pub covers-first : {T : Type 0} (f : T → ℕ) (a b : Block T) (x y : List (Block T))
    → f a.min ≤ f b.min → f b.max ≤ f a.max → Covers f (a ∷ x) y → Covers f (a ∷ x) (b ∷ y)
covers-first f a b x y l h c n k = elim (or_cases (within f n b) (holds f y n) k) [
  | inl w ↦ or_left (within f n a) (holds f x n)
      (between-in (f a.min) (f a.max) n (omega (arith, between-low (f b.min) (f b.max) n w))
      (omega (arith, between-high (f b.min) (f b.max) n w)))
  | inr w ↦ c n w
]

pub covers-rest : {T : Type 0} (f : T → ℕ) (b : Block T) (xs y : List (Block T))
    → Covers f xs (b ∷ y) → Covers f xs y
covers-rest f b xs y c n h = c n (or_right (within f n b) (holds f y n) h)

-- the first block of the inner set begins before the outer set
pub not-covers-before : {T : Type 0} (f : T → ℕ) (a : ℕ) (b : Block T) (xs y : List (Block T))
    → RisesFrom f a xs → f b.min < a → f b.min ≤ f b.max → Covers f xs (b ∷ y) → ⊥
not-covers-before f a b xs y r l v c =
    clash (holds f xs (f b.min))
    (c (f b.min) (or_left (within f (f b.min) b) (holds f y (f b.min))
    (between-in (f b.min) (f b.max) (f b.min) (omega arith) v)))
    (holds-below f a (f b.min) xs r l)

-- the first block of the inner set ends after that of the outer set, in which it begins
pub not-covers-after : {T : Type 0} (f : T → ℕ) (a b : Block T) (x y : List (Block T))
    → RisesFrom f 0 (a ∷ x) → f b.min ≤ f a.max → f a.max < f b.max → Covers f (a ∷ x) (b ∷ y) → ⊥
not-covers-after f a b x y r l h c =
    let n : ℕ = f a.max + 1 in
    let k : (within f n a || holds f x n) ≡ true =
    c n (or_left (within f n b) (holds f y n)
    (between-in (f b.min) (f b.max) n (omega arith) (omega arith))) in
    let e : within f n a ≡ false = between-after (f a.min) (f a.max) n (omega arith) in
    let d : holds f x n ≡ false = holds-below f (f a.max + 2) n x r.2 (omega arith) in
    clash (within f n a || holds f x n) k (rw (e, d) refl)

-- no block is empty
pub rises-valid : {T : Type 0} (f : T → ℕ) (a : ℕ) (bs : List (Block T)) → RisesFrom f a bs
    → All (λ b. f b.min ≤ f b.max) bs
rises-valid f a [] r = All-nil (λ b. f b.min ≤ f b.max)
rises-valid f a (b ∷ bs) r =
    All-cons (λ c. f c.min ≤ f c.max) b bs r.1 (rises-valid f (f b.max + 2) bs r.2)
