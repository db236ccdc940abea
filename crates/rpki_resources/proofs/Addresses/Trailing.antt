-- the zero bits and the one bits that a number ends in
use Rattle.std.proofs.Common.{◌≡◌, ℕ, zero, suc, ◌+◌, ◌-◌, ◌*◌, ◌/◌, ◌%◌, ◌^◌, ◌<◌, ◌≤◌, refl, sym}
use Rattle.std.proofs.Common.{◌∙◌, arith, inl, inr}
use Rattle.std.specs.Int.{w128, trailing_zeros, trailing_ones}
use Rattle.std.specs.Int.Count.{count_trailing_zeros, under}
use Rattle.std.proofs.Math.Nat.{add-mul-mod_self_right, mul-mod_left, mod-eq_of_lt, mod-lt}
use Rattle.std.proofs.Math.Nat.{eq-or-lt_of_le}
use Rattle.std.proofs.lemmas.Nat.{pow-add, pow_pos, mod-pow-add, trailing_le, shr_split}
use Rattle.std.proofs.lemmas.Nat.{div-add-mod'}

-- ---- zeros

-- as many digits as a number ends in zeros may be dropped
zeros-by : (d t n : ℕ) → n % 2 ≡ d → n / 2 % 2 ^ t ≡ 0 → n % 2 ^ under d t ≡ 0
zeros-by zero t n e h =
    let s : suc t ≡ t + 1 = omega arith in
    rw s (rw (mod-pow-add n t 1) (omega (arith, e, h)))
zeros-by (suc d) t n e h = omega arith

zeros-dropped : (k n : ℕ) → n % 2 ^ count_trailing_zeros k n ≡ 0
unfolding count_trailing_zeros
zeros-dropped zero n = omega arith
zeros-dropped (suc k) n =
    zeros-by (n % 2) (count_trailing_zeros k (n / 2)) n refl (zeros-dropped k (n / 2))

-- a multiple of a power of two ends in as many zeros
zeros-more : (d i t : ℕ) → d ≡ 0 → i ≤ t → suc i ≤ under d t
zeros-more zero i t z h = omega (arith, h)
zeros-more (suc d) i t z h = absurd (omega (arith, z))

halved : (n i : ℕ) → n % 2 ^ suc i ≡ 0 → (n % 2 ≡ 0) × (n / 2 % 2 ^ i ≡ 0)
halved n i h =
    let s : suc i ≡ i + 1 = omega arith in
    let e = rw (s, mod-pow-add n i 1) at h in
    (omega (arith, e), omega (arith, e))

zeros-at-least : (k n i : ℕ) → i ≤ k → n % 2 ^ i ≡ 0 → i ≤ count_trailing_zeros k n
unfolding count_trailing_zeros
zeros-at-least k n zero l h = omega arith
zeros-at-least zero n (suc i) l h = absurd (omega (arith, l))
zeros-at-least (suc k) n (suc i) l h =
    let half = halved n i h in
    zeros-more (n % 2) i (count_trailing_zeros k (n / 2)) half.0
    (zeros-at-least k (n / 2) i (omega (arith, l)) half.1)

-- ---- ones

-- what makes a multiple with a multiple is one
pub other-multiple : (a b q m : ℕ) → a + b ≡ q * m → b % m ≡ 0 → a % m ≡ 0
other-multiple a b q m e h =
    let k : b ≡ b / m * m = omega (arith, div-add-mod' b m, h) in
    let sum : (a + b / m * m) % m ≡ (q * m) % m = rw (← k) (rw e refl) in
    sym (add-mul-mod_self_right a (b / m) m) ∙ sum ∙ mul-mod_left q m

whole-128 : (i : ℕ) → i ≤ 128 → 2 ^ 128 ≡ 2 ^ (128 - i) * 2 ^ i
whole-128 i l = let s : 128 - i + i ≡ 128 = omega arith in rw (← pow-add 2 (128 - i) i, s) refl

-- a number and what the ones after it would have to be
after : (n i : ℕ) → n < 2 ^ 128 → i ≤ 128 → (n + 1) + (2 ^ 128 - 1 - n) ≡ 2 ^ (128 - i) * 2 ^ i
after n i h l = rw (← whole-128 i l) (omega arith)

before : (n i : ℕ) → n < 2 ^ 128 → i ≤ 128 → (2 ^ 128 - 1 - n) + (n + 1) ≡ 2 ^ (128 - i) * 2 ^ i
before n i h l = rw (← whole-128 i l) (omega arith)

-- ---- of 128 bits

pub lower-dropped : (n : ℕ) → n % 2 ^ trailing_zeros w128 n ≡ 0
lower-dropped n = zeros-dropped 128 n

pub lower-at-least : (n i : ℕ) → i ≤ 128 → n % 2 ^ i ≡ 0 → i ≤ trailing_zeros w128 n
lower-at-least n i l h = zeros-at-least 128 n i l h

pub lower-most : (n : ℕ) → trailing_zeros w128 n ≤ 128
lower-most n = trailing_le 128 n

pub upper-dropped : (n : ℕ) → n < 2 ^ 128 → (n + 1) % 2 ^ trailing_ones w128 n ≡ 0
upper-dropped n h = let t : ℕ = trailing_ones w128 n in
    other-multiple (n + 1) (2 ^ 128 - 1 - n) (2 ^ (128 - t)) (2 ^ t)
    (after n t h (trailing_le 128 (2 ^ 128 - 1 - n))) (zeros-dropped 128 (2 ^ 128 - 1 - n))

pub upper-at-least : (n i : ℕ) → n < 2 ^ 128 → i ≤ 128 → (n + 1) % 2 ^ i ≡ 0
    → i ≤ trailing_ones w128 n
upper-at-least n i h l e =
    zeros-at-least 128 (2 ^ 128 - 1 - n) i l
    (other-multiple (2 ^ 128 - 1 - n) (n + 1) (2 ^ (128 - i)) (2 ^ i) (before n i h l) e)

pub upper-most : (n : ℕ) → trailing_ones w128 n ≤ 128
upper-most n = trailing_le 128 (2 ^ 128 - 1 - n)

-- ---- without the bits, and with them again

-- zeros after the bits of a number that ends in zeros
pub zeros-after : (n k : ℕ) → n % 2 ^ k ≡ 0 → n / 2 ^ k * 2 ^ k ≡ n
zeros-after n k h = omega (arith, shr_split n k, h)

-- a multiple of m up to m is m
all-of-it : (x m : ℕ) → 0 < x → x ≤ m → x % m ≡ 0 → x ≡ m
all-of-it x m pos l h = elim (eq-or-lt_of_le l) [
  | inl e ↦ e
  | inr lt ↦ absurd (omega (arith, mod-eq_of_lt lt, h))
]

rest-of : (n m : ℕ) → 0 < m → (n + 1) % m ≡ 0 → n % m + 1 ≡ m
rest-of n m pos h =
    let split : n + 1 ≡ (n % m + 1) + n / m * m = omega (arith, div-add-mod' n m) in
    let e : (n % m + 1) % m ≡ 0 = sym (add-mul-mod_self_right (n % m + 1) (n / m) m)
    ∙ rw (← split) h in
    all-of-it (n % m + 1) m (omega arith) (omega (arith, mod-lt n pos)) e

-- ones after the bits of a number that ends in ones
pub ones-after : (n k : ℕ) → (n + 1) % 2 ^ k ≡ 0 → n / 2 ^ k * 2 ^ k + 2 ^ k - 1 ≡ n
ones-after n k h = omega (arith, shr_split n k, rest-of n (2 ^ k) (pow_pos k) h)
