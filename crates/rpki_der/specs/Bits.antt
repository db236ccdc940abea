-- BIT STRINGs.
use Rattle.std.specs.Prelude.{◌≡◌, ℕ, ◌<◌, List, length, Bool, true, false, nat_lt, ◌==◌}
use Rattle.std.specs.Prelude.{if◌then◌else◌}

-- X.690, 8.6.2: how many bits of the last octet may be unused: 0 to 7, and 0 where there is no
-- octet. That these bits may be any when they are read in DER, where 11.2.1 has zeros, is this
-- project's own rule.
pub record IsBits (octets : List ℕ) (unused : ℕ) : Type 0 where
  pub few : unused < 8
  pub none : length octets ≡ 0 → unused ≡ 0

-- whether the unused bits are fewer than 8, and none where no octet follows
abbrev pub are_bits : List ℕ → ℕ → Bool
are_bits octets unused =
    if nat_lt unused 8 then (if length octets == 0 then unused == 0 else true) else false
