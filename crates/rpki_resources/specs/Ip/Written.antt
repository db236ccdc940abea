-- The octets that a set of addresses is written as in DER (RFC 3779, 2.1 and 2.2.3).
use Rattle.std.specs.Prelude.{ℕ, ◌+◌, ◌-◌, ◌*◌, ◌/◌, List, ◌++◌, take, Option, None, Some}
use Rattle.std.specs.Int.{w128, to_be_bytes, trailing_zeros, trailing_ones}
use Rattle.rpki_der.specs.Tags.{BIT_STRING, SEQUENCE}
use Rattle.rpki_der.specs.Write.Written.{value_octets, bit_string_contents}
use Rattle.rpki_resources.specs.declared.block.Block.{Block}
use Rattle.rpki_resources.specs.Prefix.{prefix_len}

-- the number of octets that len bits take
abbrev pub octet_count : ℕ → ℕ
octet_count len = (len + 7) / 8

-- the first len bits of an address, as the contents of a BIT STRING
unfoldable pub first_bits : ℕ → ℕ → List ℕ
first_bits addr len =
    bit_string_contents (take (octet_count len) (to_be_bytes w128 addr)) (8 * octet_count len - len)

-- The first len bits of an address, as a BIT STRING.
abbrev pub end_octets : ℕ → ℕ → List ℕ
end_octets addr len = value_octets BIT_STRING (first_bits addr len)

-- how many bits of a lower end are written: the trailing zero bits are left out (2.1.2)
abbrev pub lower_len : ℕ → ℕ
lower_len addr = 128 - trailing_zeros w128 addr

-- how many bits of an upper end are written: the trailing one bits are left out (2.1.2)
abbrev pub upper_len : ℕ → ℕ
upper_len addr = 128 - trailing_ones w128 addr

-- the identifier octet of a block: BIT STRING for a prefix of this length, and SEQUENCE for a block
-- that is no prefix
abbrev pub tag_by : Option ℕ → ℕ
tag_by (Some len) = BIT_STRING
tag_by None = SEQUENCE

-- the contents of a prefix of this length, or of a range
abbrev pub contents_by : Option ℕ → Block ℕ → List ℕ
contents_by (Some len) b = first_bits b.min len
contents_by None b = end_octets b.min (lower_len b.min) ++ end_octets b.max (upper_len b.max)

-- the contents of a block: the bits of its prefix, where it is one, and else its ends (2.2.3.7 to
-- 2.2.3.9)
abbrev pub ip_contents : Block ℕ → List ℕ
ip_contents b = contents_by (prefix_len b.min b.max) b

-- a block as a value: a BIT STRING, or a SEQUENCE of two (2.2.3.7)
abbrev pub ip_octets : Block ℕ → List ℕ
ip_octets b = value_octets (tag_by (prefix_len b.min b.max)) (ip_contents b)
