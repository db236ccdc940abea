-- The digits to base 256 of a number of 64 bits.
use Rattle.std.proofs.Common.{◌≡◌, ℕ, ◌<◌, ◌^◌, arith}
use Rattle.std.specs.Int.{w64, to_be_bytes}
use Rattle.rpki_der.specs.Numbers.{number}

pub number_u64 : (n : ℕ) → n < 2 ^ 64 → number 0 (to_be_bytes w64 n) ≡ n
number_u64 n h = omega arith
