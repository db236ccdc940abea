-- The octets that a set of AS numbers is written as in DER (RFC 3779, 3.2.3).
use Rattle.std.specs.Prelude.{◌≡◌, ℕ, ◌<◌, ◌^◌, false, List, ◌++◌, length, ◌==◌, if◌then◌else◌}
use Rattle.rpki_der.specs.Tags.{SEQUENCE}
use Rattle.rpki_der.specs.Write.Written.{value_octets, number_octets}
use Rattle.rpki_resources.specs.declared.block.Block.{Block}

-- the lower end and the upper end
abbrev pub as_ends : Block ℕ → List ℕ
as_ends b = number_octets b.min ++ number_octets b.max

-- one number is an INTEGER, and several are a SEQUENCE of the ends
abbrev pub as_octets : Block ℕ → List ℕ
as_octets b = if b.min == b.max then number_octets b.min else value_octets SEQUENCE (as_ends b)

-- the contents of the SEQUENCE, if it is one, have fewer than 2^32 octets
abbrev pub IsAsShort : Block ℕ → Type 0
IsAsShort b = (b.min == b.max) ≡ false → length (as_ends b) < 2 ^ 32
