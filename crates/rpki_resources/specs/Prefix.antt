-- Prefixes of addresses, which are numbers of 128 bits.
use Rattle.std.specs.Prelude.{◌≡◌, ℕ, zero, suc, ◌+◌, ◌-◌, ◌%◌, ◌^◌, ◌≤◌, Option, None, Some, Bool}
use Rattle.std.specs.Prelude.{◌==◌, ◌&&◌}
use Rattle.std.specs.Prelude.{if◌then◌else◌}

-- a prefix: its first address, and how many bits it is
pub record Network : Type 0 where
  pub addr : ℕ
  pub len : ℕ

-- the first address of the prefix of this length that an address is in
abbrev pub first_of : ℕ → ℕ → ℕ
first_of addr len = addr - addr % 2 ^ (128 - len)

-- the last address of the prefix of this length that an address is in
abbrev pub last_of : ℕ → ℕ → ℕ
last_of addr len = first_of addr len + 2 ^ (128 - len) - 1

-- the addresses from lo to hi are those of a prefix of this length
pub record IsPrefix (lo hi len : ℕ) : Type 0 where
  pub within : len ≤ 128
  pub aligned : lo % 2 ^ (128 - len) ≡ 0
  pub size : hi + 1 ≡ lo + 2 ^ (128 - len)

-- whether the two are the first and the last address of a prefix of this length; no length is too
-- large here
abbrev pub is_prefix : ℕ → ℕ → ℕ → Bool
is_prefix lo hi len = (lo % 2 ^ (128 - len) == 0) && (hi + 1 == lo + 2 ^ (128 - len))

-- the length of the prefix, if there is one of fewer bits than n
abbrev pub below : ℕ → ℕ → ℕ → Option ℕ
below zero lo hi = None
below (suc n) lo hi = if is_prefix lo hi n then Some n else below n lo hi

-- the length of the prefix whose addresses are those from lo to hi, if there is one
unfoldable pub prefix_len : ℕ → ℕ → Option ℕ
prefix_len lo hi = below 129 lo hi
