-- bits as numbers
use Rattle.std.proofs.Common.{◌≡◌, ℕ, zero, suc, ◌+◌, ◌-◌, ◌*◌, ◌/◌, ◌%◌, ◌^◌, ◌<◌, ◌≤◌, List, []}
use Rattle.std.proofs.Common.{◌∷◌, ◌++◌, length, take, get_or, ap, refl, arith}
use Rattle.std.proofs.Math.Pow.{pow_mono}
use Rattle.std.proofs.lemmas.Nat.{pow-add, pow_pos, shr_below, shl_whole, mul-le}
use Rattle.std.proofs.lemmas.List.{take_more}
use Rattle.rpki_der.specs.Numbers.{number}

pub number-push : (a : ℕ) (xs : List ℕ) (y : ℕ) → number a (xs ++ y ∷ []) ≡ number a xs * 256 + y
number-push a [] y = refl
number-push a (x ∷ xs) y = number-push (a * 256 + x) xs y

-- one more digit
pub number-more : (xs : List ℕ) (i v : ℕ) → i < length xs → v ≡ number 0 (take i xs)
    → v * 256 + get_or xs i 0 ≡ number 0 (take (i + 1) xs)
number-more xs i v l e = rw (take_more xs i 0 l, number-push 0 (take i xs) (get_or xs i 0), e) refl

pub small-more : (v o i : ℕ) → v < 2 ^ (8 * i) → o < 256 → v * 256 + o < 2 ^ (8 * (i + 1))
small-more v o i h l =
    let e : 8 * (i + 1) ≡ 8 * i + 8 = omega arith in
    rw (e, pow-add 2 (8 * i) 8) (omega arith)

pub small-fits : (n i : ℕ) → n < 2 ^ (8 * i) → i ≤ 16 → n < 2 ^ 128
small-fits n i h l = let k : 2 ^ (8 * i) ≤ 2 ^ 128 = pow_mono {i = 8 * i} {j = 128} (omega arith) in
    omega arith

-- the bits of a number of n octets, without the unused ones
pub value-below : (n unused v : ℕ) → unused < 8 → v < 2 ^ (8 * n)
    → v / 2 ^ unused < 2 ^ (8 * n - unused)
value-below zero unused v few h =
    let e : v ≡ 0 = omega arith in
    let d : 8 * 0 - unused ≡ 0 = omega arith in
    rw (e, d) (omega (arith, zero-div unused))
  where
    zero-div : (u : ℕ) → 0 / 2 ^ u ≡ 0
    zero-div u = let pos : 0 < 2 ^ u = pow_pos u in omega arith
value-below (suc n) unused v few h =
    let e : (8 * suc n - unused) + unused ≡ 8 * suc n = omega arith in
    shr_below v (8 * suc n - unused) unused (rw e h)

-- len bits, and zeros after them, are below 2 ^ 128 by a block of them
pub room-below : (q len : ℕ) → q < 2 ^ len → len ≤ 128
    → q * 2 ^ (128 - len) + 2 ^ (128 - len) ≤ 2 ^ 128
room-below q len h l =
    let sum : len + (128 - len) ≡ 128 = omega arith in
    let whole : 2 ^ len * 2 ^ (128 - len) ≡ 2 ^ 128 =
    rw (← pow-add 2 len (128 - len)) (ap (λ k. 2 ^ k) sum) in
    let k : (q + 1) * 2 ^ (128 - len) ≤ 2 ^ len * 2 ^ (128 - len) =
    mul-le (q + 1) (2 ^ (128 - len)) (2 ^ len) (2 ^ (128 - len)) (omega arith) (omega arith) in
    omega arith

-- no bit is lost
pub shift-whole : (q len : ℕ) → q < 2 ^ len → len ≤ 128
    → q * 2 ^ (128 - len) % 2 ^ 128 ≡ q * 2 ^ (128 - len)
shift-whole q len h l = shl_whole q len (128 - len) 128 h (omega arith)
