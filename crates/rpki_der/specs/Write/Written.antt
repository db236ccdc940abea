-- The octets that values are written as in DER.
use Rattle.std.specs.Prelude.{ℕ, ◌+◌, ◌-◌, ◌%◌, ◌≤◌, List, [], ◌∷◌, ◌++◌, length, drop, ◌^◌, Bool}
use Rattle.std.specs.Prelude.{nat_lt, ◌==◌, if◌then◌else◌}
use Rattle.std.proofs.Common.{arith, length-append}
use Rattle.std.proofs.lemmas.Bool.Decides.{nat_tests}
use Rattle.std.specs.Int.{w32, to_be_bytes}
use Rattle.rpki_der.specs.Tags.{INTEGER}

-- the octets of this length of contents, below 2^32, in the shortest form (X.690, sections 8.1.3
-- and 10.1)
unfoldable pub length_octets : ℕ → List ℕ
length_octets n =
    if nat_lt n 0x80 then drop 3 (to_be_bytes w32 n)
    else if nat_lt n 0x100 then 0x81 ∷ drop 3 (to_be_bytes w32 n)
    else if nat_lt n 0x10000 then 0x82 ∷ drop 2 (to_be_bytes w32 n)
    else if nat_lt n 0x1000000 then 0x83 ∷ drop 1 (to_be_bytes w32 n)
    else 0x84 ∷ to_be_bytes w32 n

-- a value: its identifier octet, its length and its contents
abbrev pub value_octets : ℕ → List ℕ → List ℕ
value_octets identifier contents = identifier ∷ length_octets (length contents) ++ contents

-- X.690, 8.2.2 and 11.1: the contents of a BOOLEAN
abbrev pub boolean_contents : Bool → List ℕ
boolean_contents b = (if b then 0xFF else 0x00) ∷ []

-- digits to base 256 without zeros in front
abbrev pub significant : List ℕ → List ℕ
significant [] = []
significant (d ∷ ds) = if d == 0 then significant ds else d ∷ ds

-- digits, with a zero in front where the first bit would say that the number is negative
abbrev pub not_negative : List ℕ → List ℕ
not_negative [] = 0 ∷ []
not_negative (d ∷ ds) = if nat_lt d 128 then d ∷ ds else 0 ∷ d ∷ ds

-- X.690, 8.3: the shortest contents of an INTEGER that is not negative and has these digits to base
-- 256
abbrev pub integer_contents : List ℕ → List ℕ
integer_contents digits = not_negative (significant digits)

-- How many bits of the last octet are not used: 7 at most, and none where there is no octet (X.690,
-- 8.6.2). That a greater number is taken for 7, or where there is no octet for 0, is this project's
-- own rule.
abbrev pub unused_bits : List ℕ → ℕ → ℕ
unused_bits [] unused = 0
unused_bits (octet ∷ octets) unused = if nat_lt unused 8 then unused else 7

-- an octet with zeros for its unused lowest bits
abbrev pub zero_bits : ℕ → ℕ → ℕ
zero_bits octet unused = octet - octet % (2 ^ unused)

-- X.690, 11.2.1: octets with zeros for the unused lowest bits of the last one
abbrev pub zero_last : List ℕ → ℕ → List ℕ
zero_last [] unused = []
zero_last (octet ∷ []) unused = zero_bits octet unused ∷ []
zero_last (octet ∷ next ∷ octets) unused = octet ∷ zero_last (next ∷ octets) unused

-- X.690, 8.6.2: the contents of a BIT STRING
abbrev pub bit_string_contents : List ℕ → ℕ → List ℕ
bit_string_contents octets unused =
    unused_bits octets unused ∷ zero_last octets (unused_bits octets unused)

-- an INTEGER from 0 to 2^32 - 1 in its shortest form
unfoldable pub number_octets : ℕ → List ℕ
number_octets n = value_octets INTEGER (integer_contents (to_be_bytes w32 n))

-- a length has five octets at most
pub length_octets_le : (n : ℕ) → length (length_octets n) ≤ 5
unfolding length_octets
length_octets_le n = grind (arith, nat_tests)

-- a header has six octets at most
pub length_value_octets_le : (identifier : ℕ) (contents : List ℕ)
    → length (value_octets identifier contents) ≤ length contents + 6
length_value_octets_le identifier contents =
    omega (
      arith,
      length-append (length_octets (length contents)) contents,
      length_octets_le (length contents),
    )
