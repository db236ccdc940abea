-- The octets of a set of addresses of a family. The sections are those of RFC 3779.
use Rattle.std.specs.Prelude.{◌≡◌, ℕ, ◌+◌, ◌-◌, ◌*◌, ◌/◌, ◌^◌, ◌≤◌, List, [], ◌∷◌, length}
use Rattle.rpki_der.specs.declared.mode.Mode.{Mode}
use Rattle.rpki_der.specs.Bits.{IsBits}
use Rattle.rpki_der.specs.Numbers.{number}
use Rattle.rpki_der.specs.Grammar.{BitString}
use Rattle.rpki_der.specs.Form.Parts.{Sequence, SequenceOf}
use Rattle.rpki_der.specs.Form.Made.{Choice, Made, Understood}
use Rattle.rpki_resources.specs.declared.block.Block.{Block}
use Rattle.rpki_resources.specs.declared.family.AddressFamily.{AddressFamily}
use Rattle.rpki_resources.specs.Family.{max_bits}
use Rattle.rpki_resources.specs.Blocks.{IsBlock, IsSetOf}
use Rattle.rpki_resources.specs.Prefix.{Network}

-- how many bits are in octets without the unused ones of the last octet
abbrev pub bit_count : List ℕ × ℕ → ℕ
bit_count bits = 8 * length bits.0 - bits.1

-- the number that the bits are
abbrev pub bit_value : List ℕ × ℕ → ℕ
bit_value bits = number 0 bits.0 / 2 ^ bits.1

-- the lowest address that begins with the bits: zeros follow them, up to 128 bits (2.1.1 and 2.1.2)
abbrev pub lowest : List ℕ × ℕ → ℕ
lowest bits = bit_value bits * 2 ^ (128 - bit_count bits)

-- the highest one: ones follow them
abbrev pub highest : List ℕ × ℕ → ℕ
highest bits = lowest bits + 2 ^ (128 - bit_count bits) - 1

-- the addresses that begin with the bits
abbrev pub beginning : List ℕ × ℕ → Block ℕ
beginning bits = record { min = lowest bits; max = highest bits }

-- the prefix that the bits are
abbrev pub network : List ℕ × ℕ → Network
network bits = record { addr = lowest bits; len = bit_count bits }

-- Octets, of the last of which some bits are not used, are this prefix of the family: they are a
-- string of bits, and these are no more than an address of the family has (2.2.3.8).
pub record IsNetworkOf (family : AddressFamily) (bits : List ℕ × ℕ) (p : Network) : Type 0 where
  pub string : IsBits bits.0 bits.1
  pub most : bit_count bits ≤ max_bits family
  pub same : p ≡ network bits

-- IPAddress: a BIT STRING (2.2.3.8), of no more bits than an address of the family has
abbrev pub IpAddress : ℕ → Mode → List ℕ → List ℕ × ℕ → Type 0
IpAddress most mode octets bits = BitString mode octets bits × (bit_count bits ≤ most)

-- IPAddressRange: SEQUENCE { min, max } (2.2.3.9), where the lower end is not above the upper end
abbrev pub IpRange : ℕ → Mode → List ℕ → Block ℕ → Type 0
IpRange most mode octets b = Sequence mode (
    (λ o. Made lowest (IpAddress most mode) o b.min)
    ∷ (λ o. Made highest (IpAddress most mode) o b.max)
    ∷ []) octets × IsBlock (λ n. n) b

-- IPAddressOrRange: CHOICE { addressPrefix, addressRange } (2.2.3.7)
abbrev pub IpPrefixOrRange : ℕ → Mode → List ℕ → Block ℕ → Type 0
IpPrefixOrRange most mode = Choice (IpRange most mode) (Made beginning (IpAddress most mode))

-- addressesOrRanges: SEQUENCE OF IPAddressOrRange (2.2.3.6), as the set of their addresses. In RFC
-- 3779 they ascend, no two of them overlap or touch, the addresses of a prefix are a prefix, and
-- the trailing zero bits of a lower end and one bits of an upper end are left out (2.1.2). Here
-- they may stand in any order, overlap, and be none, the addresses of a prefix may be a range, and
-- these bits of an end may be there: this project's own rule.
abbrev pub IpForm : AddressFamily → Mode → List ℕ → List (Block ℕ) → Type 0
IpForm family mode = Understood IsSetOf (SequenceOf mode (IpPrefixOrRange (max_bits family) mode))

-- addressPrefix as a prefix (2.2.3.8; RFC 9582, section 4.3)
abbrev pub PrefixForm : AddressFamily → Mode → List ℕ → Network → Type 0
PrefixForm family mode = Made network (IpAddress (max_bits family) mode)
