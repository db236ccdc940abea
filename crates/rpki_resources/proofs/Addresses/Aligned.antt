-- Sets of addresses of a family: which addresses a set has tells whether its blocks are of the
-- family.
use Rattle.std.proofs.Common.{◌≡◌, ℕ, ◌+◌, ◌-◌, ◌*◌, ◌/◌, ◌%◌, ◌^◌, ◌<◌, ◌≤◌, List, [], ◌∷◌, true}
use Rattle.std.proofs.Common.{false, All, inl, inr, refl, sym, ◌∙◌, arith}
use Rattle.std.proofs.lemmas.Bool.{or_cases, and_parts, or_left, or_right}
use Rattle.std.proofs.lemmas.Bool.Decides.{leb_tells}
use Rattle.std.proofs.lemmas.Nat.{pow_pos, div-add-mod', mod_below, mul-le}
use Rattle.std.proofs.lemmas.List.Elements.{All-nil, All-cons, All-head, All-tail}
use Rattle.rpki_resources.specs.declared.block.Block.{Block}
use Rattle.rpki_resources.specs.declared.family.AddressFamily.{AddressFamily}
use Rattle.rpki_resources.specs.Blocks.{is_between, within, holds, Holds, RisesFrom, IsCanonical}
use Rattle.rpki_resources.specs.Blocks.{SameSet, IsUnion, IsIntersection}
use Rattle.rpki_resources.specs.Family.{max_bits, IsWithin}
use Rattle.rpki_resources.proofs.Sets.Between.{between-in, between-before, between-after}
use Rattle.rpki_resources.proofs.Sets.Between.{between-high}
use Rattle.rpki_resources.proofs.Sets.Joining.{n_of}
use Rattle.rpki_resources.proofs.Sets.Rises.{holds-below, clash}

-- The numbers from q * k up to the next multiple of k are all in the blocks or none of them, for
-- each q from p on.
abbrev IsWhole : ℕ → ℕ → List (Block ℕ) → Type 0
IsWhole k p bs = (q r s : ℕ) → p ≤ q → r < k → s < k
    → holds n_of bs (q * k + r) ≡ holds n_of bs (q * k + s)

-- no number of the blocks, from some one on, has more than 128 bits
abbrev IsSmall : ℕ → List (Block ℕ) → Type 0
IsSmall a bs = (n : ℕ) → a ≤ n → Holds n_of bs n → n < 2 ^ 128

-- ---- the blocks tell of the numbers

between-whole : (k lo hi q r s : ℕ) → lo % k ≡ 0 → (hi + 1) % k ≡ 0 → r < k → s < k
    → is_between lo hi (q * k + r) ≡ is_between lo hi (q * k + s)
between-whole k lo hi q r s low high l h =
    let a : ℕ = lo / k in
    let c : ℕ = (hi + 1) / k in
    let first : a * k ≡ lo = omega (arith, div-add-mod' lo k, low) in
    let next : c * k ≡ hi + 1 = omega (arith, div-add-mod' (hi + 1) k, high) in
    elim (leb_tells a q) [
      | inr t ↦
          let m : (q + 1) * k ≤ a * k = mul-le (q + 1) k a k (omega (arith, t.1)) (omega arith) in
          between-before lo hi (q * k + r) (omega (arith, m, first, l))
          ∙ sym (between-before lo hi (q * k + s) (omega (arith, m, first, h)))
      | inl t ↦
          let m : a * k ≤ q * k = mul-le a k q k t.1 (omega arith) in
          elim (leb_tells c q) [
            | inl u ↦
                let n : c * k ≤ q * k = mul-le c k q k u.1 (omega arith) in
                between-after lo hi (q * k + r) (omega (arith, n, next))
                ∙ sym (between-after lo hi (q * k + s) (omega (arith, n, next)))
            | inr u ↦
                let n : (q + 1) * k ≤ c * k =
                mul-le (q + 1) k c k (omega (arith, u.1)) (omega arith) in
                between-in lo hi (q * k + r) (omega (arith, m, first)) (omega (arith, n, next, l))
                ∙ sym (between-in lo hi (q * k + s) (omega (arith, m, first))
                (omega (arith, n, next, h)))
          ]
    ]

all-whole : (family : AddressFamily) (bs : List (Block ℕ)) → All (IsWithin family) bs
    → IsWhole (2 ^ (128 - max_bits family)) 0 bs
all-whole family [] h q r s z l m = refl
all-whole family (b ∷ bs) h q r s z l m =
    let b_in = All-head (IsWithin family) b bs h in
    rw (
      between-whole (2 ^ (128 - max_bits family)) b.min b.max q r s b_in.lower b_in.upper l m,
      all-whole family bs (All-tail (IsWithin family) b bs h) q r s z l m,
    ) refl

all-small : (family : AddressFamily) (bs : List (Block ℕ)) → All (IsWithin family) bs → IsSmall 0 bs
all-small family [] h n z held = absurd cc
all-small family (b ∷ bs) h n z held = elim (or_cases (within n_of n b) (holds n_of bs n) held) [
  | inl w ↦ omega (arith, between-high b.min b.max n w, (All-head (IsWithin family) b bs h).below)
  | inr w ↦ all-small family bs (All-tail (IsWithin family) b bs h) n z w
]

-- ---- the numbers tell of the blocks

not-before : (k p q r : ℕ) → p * k ≤ q * k + r → r < k → p ≤ q
not-before k p q r l h = elim (leb_tells p q) [
  | inl t ↦ t.1
  | inr t ↦ let m : (q + 1) * k ≤ p * k = mul-le (q + 1) k p k (omega (arith, t.1)) (omega arith) in
      absurd (omega (arith, m, l, h))
]

first-aligned : (k p a : ℕ) (b : Block ℕ) (bs : List (Block ℕ)) → 0 < k → p * k ≤ a
    → RisesFrom n_of a (b ∷ bs) → IsWhole k p (b ∷ bs) → b.min % k ≡ 0
first-aligned k p a b bs pos l rises whole =
    let q : ℕ = b.min / k in
    let r : ℕ = b.min % k in
    let e : q * k + r ≡ b.min = div-add-mod' b.min k in
    let h : r < k = mod_below b.min k pos in
    let low = rises.0 in
    elim (leb_tells r 0) [
      | inl t ↦ omega (arith, t.1)
      | inr t ↦
          let held : holds n_of (b ∷ bs) (q * k + r) ≡ true =
          or_left (within n_of (q * k + r) b) (holds n_of bs (q * k + r))
          (between-in b.min b.max (q * k + r) (omega (arith, e))
          (omega (arith, e, rises.1))) in
          let none : holds n_of (b ∷ bs) (q * k + (r - 1)) ≡ false =
          holds-below n_of b.min (q * k + (r - 1)) (b ∷ bs) (omega arith, rises.1, rises.2)
          (omega (arith, e, t.1)) in
          absurd (clash (holds n_of (b ∷ bs) (q * k + (r - 1)))
          (whole q (r - 1) r (not-before k p q r (omega (arith, e, low, l)) h)
          (omega (arith, h)) h ∙ held) none)
    ]

last-aligned : (k p a : ℕ) (b : Block ℕ) (bs : List (Block ℕ)) → 0 < k → p * k ≤ a
    → RisesFrom n_of a (b ∷ bs) → IsWhole k p (b ∷ bs) → (b.max + 1) % k ≡ 0
last-aligned k p a b bs pos l rises whole =
    let q : ℕ = (b.max + 1) / k in
    let r : ℕ = (b.max + 1) % k in
    let e : q * k + r ≡ b.max + 1 = div-add-mod' (b.max + 1) k in
    let h : r < k = mod_below (b.max + 1) k pos in
    let low = rises.0 in
    elim (leb_tells r 0) [
      | inl t ↦ omega (arith, t.1)
      | inr t ↦
          let held : holds n_of (b ∷ bs) (q * k + (r - 1)) ≡ true =
          or_left (within n_of (q * k + (r - 1)) b) (holds n_of bs (q * k + (r - 1)))
          (between-in b.min b.max (q * k + (r - 1)) (omega (arith, e, t.1, rises.1))
          (omega (arith, e, t.1))) in
          let outside : within n_of (q * k + r) b ≡ false =
          between-after b.min b.max (q * k + r) (omega (arith, e)) in
          let none : holds n_of bs (q * k + r) ≡ false =
          holds-below n_of (b.max + 2) (q * k + r) bs rises.2 (omega (arith, e)) in
          absurd (clash (holds n_of (b ∷ bs) (q * k + r))
          (whole q r (r - 1) (not-before k p q (r - 1) (omega (arith, e, low, l, t.1, rises.1))
          (omega (arith, h))) h (omega (arith, h)) ∙ held) (rw (outside, none) refl))
    ]

set-within : (family : AddressFamily) (p a : ℕ) (bs : List (Block ℕ))
    → p * 2 ^ (128 - max_bits family) ≤ a → RisesFrom n_of a bs
    → IsWhole (2 ^ (128 - max_bits family)) p bs → IsSmall a bs → All (IsWithin family) bs
set-within family p a [] l rises whole small = All-nil (IsWithin family)
set-within family p a (b ∷ bs) l rises whole small =
    let k : ℕ = 2 ^ (128 - max_bits family) in
    let pos : 0 < k = pow_pos (128 - max_bits family) in
    let lower = first-aligned k p a b bs pos l rises whole in
    let upper = last-aligned k p a b bs pos l rises whole in
    let low = rises.0 in
    let c : ℕ = (b.max + 1) / k in
    let next : c * k ≡ b.max + 1 = omega (arith, div-add-mod' (b.max + 1) k, upper) in
    let later : p ≤ c = not-before k p c 0 (omega (arith, l, low, next, rises.1)) pos in
    let last : holds n_of (b ∷ bs) b.max ≡ true =
    or_left (within n_of b.max b) (holds n_of bs b.max)
    (between-in b.min b.max b.max rises.1 (omega arith)) in
    let after : (n : ℕ) → b.max < n
    → within n_of n b ≡ false = λ n m. between-after b.min b.max n m in
    let others : IsWhole k c bs = λ q r s g m n.
    let at : c * k ≤ q * k = mul-le c k q k g (omega arith) in
    let same : holds n_of (b ∷ bs) (q * k + r) ≡ holds n_of (b ∷ bs) (q * k + s) =
    whole q r s (omega (arith, later, g)) m n in
    rw (after (q * k + r) (omega (arith, at, next)), after (q * k + s) (omega (arith, at, next)))
    at same in
    All-cons (IsWithin family) b bs
    (record {
      lower = lower;
      upper = upper;
      below =
          small b.max (omega (arith, low, rises.1)) last;
    })
    (set-within family c (b.max + 2) bs (omega (arith, next)) rises.2 others
    (λ n m held. small n (omega (arith, low, rises.1, m))
    (or_right (within n_of n b) (holds n_of bs n) held)))

-- ---- what is made of such blocks

pub built : (family : AddressFamily) (list set : List (Block ℕ)) → All (IsWithin family) list
    → IsCanonical n_of set → SameSet n_of set list → All (IsWithin family) set
built family list set h rises same =
    let k : ℕ = 2 ^ (128 - max_bits family) in
    set-within family 0 0 set (omega arith) rises
    (λ q r s z l m. same (q * k + r) ∙ all-whole family list h q r s z l m ∙ sym (same (q * k + s)))
    (λ n z held. all-small family list h n z (sym (same n) ∙ held))

pub united : (family : AddressFamily) (first second set : List (Block ℕ))
    → All (IsWithin family) first → All (IsWithin family) second → IsCanonical n_of set
    → IsUnion n_of first second set → All (IsWithin family) set
united family first second set h j rises union =
    let k : ℕ = 2 ^ (128 - max_bits family) in
    set-within family 0 0 set (omega arith) rises
    (λ q r s z l m. rw (
      union (q * k + r),
      union (q * k + s),
      all-whole family first h q r s z l m,
      all-whole family second j q r s z l m,
    ) refl)
    (λ n z held. elim (or_cases (holds n_of first n) (holds n_of second n) (sym (union n) ∙ held)) [
      | inl w ↦ all-small family first h n z w
      | inr w ↦ all-small family second j n z w
    ])

pub intersected : (family : AddressFamily) (first second set : List (Block ℕ))
    → All (IsWithin family) first → All (IsWithin family) second → IsCanonical n_of set
    → IsIntersection n_of first second set → All (IsWithin family) set
intersected family first second set h j rises both =
    let k : ℕ = 2 ^ (128 - max_bits family) in
    set-within family 0 0 set (omega arith) rises
    (λ q r s z l m. rw (
      both (q * k + r),
      both (q * k + s),
      all-whole family first h q r s z l m,
      all-whole family second j q r s z l m,
    ) refl)
    (λ n z held. all-small family first h n z
    (and_parts (holds n_of first n) (holds n_of second n) (sym (both n) ∙ held)).0)
