-- Address families.
pub mod Form
pub mod Read
use Rattle.std.specs.Prelude.{◌≡◌, ℕ, ◌+◌, ◌-◌, ◌%◌, ◌^◌, ◌<◌}
use Rattle.rpki_resources.specs.declared.block.Block.{Block}
use Rattle.rpki_resources.specs.declared.family.AddressFamily.{AddressFamily}
use Rattle.rpki_resources.specs.declared.family.AddressFamily.TheVariants.{Ipv4, Ipv6}

-- How many bits an address of the family has: 32 or 128.
abbrev pub max_bits : AddressFamily → ℕ
max_bits Ipv4 = 32
max_bits Ipv6 = 128

-- The ends of a block are those of addresses of the family, which stand in the upper bits of 128:
-- only zeros follow the lower one, and only ones the upper one.
pub record IsWithin (family : AddressFamily) (b : Block ℕ) : Type 0 where
  pub lower : b.min % 2 ^ (128 - max_bits family) ≡ 0
  pub upper : (b.max + 1) % 2 ^ (128 - max_bits family) ≡ 0
  pub below : b.max < 2 ^ 128
