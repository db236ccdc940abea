use Rattle.std.proofs.Common.{rules, ◌≡◌, ℕ, ◌+◌, ◌-◌, ◌*◌, ◌/◌, ◌%◌, ◌^◌, ◌<◌, ◌≤◌, arith}
use Rattle.std.proofs.Math.Nat.{mul-le-mul_left, div-lt_iff_lt-mul}
use Rattle.std.proofs.lemmas.Nat.{pow-add, pow_pos}
use Rattle.rpki_resources.proofs.prefix.max_of.Goals as goal

-- the last number of a block of m is below each multiple of m that the first is below
below : (a m p first mask : ℕ) → 0 < m → a < p * m → first + a % m ≡ a → mask + 1 ≡ m
    → first + mask < p * m
below a m p first mask pos l e h =
    let q : a / m < p = (div-lt_iff_lt-mul pos).1 l in
    let k : m * (a / m + 1) ≤ m * p = mul-le-mul_left m (omega arith) in
    omega arith

pub overflow_add-result : goal.overflow_add-result
overflow_add-result c =
    let k : ℕ = 128 - c.args.len in
    let whole : 2 ^ (c.args.len + k) ≡ 2 ^ c.args.len * 2 ^ k = pow-add 2 c.args.len k in
    let sum : c.args.len + k ≡ 128 = omega arith in
    let fits : c.args.addr < 2 ^ c.args.len * 2 ^ k = rw (← whole, sum) c.ranges.addr.fits in
    let pos : 0 < 2 ^ k = pow_pos k in
    let all : c.min_of.result + c.host_mask.result < 2 ^ c.args.len * 2 ^ k =
    below c.args.addr (2 ^ k) (2 ^ c.args.len) c.min_of.result c.host_mask.result pos fits
    (omega (arith, c.min_of.ensures.first)) c.host_mask.ensures in
    let small : c.min_of.result + c.host_mask.result < 2 ^ 128 = rw (← whole, sum) at all in
    search (rules, small)
