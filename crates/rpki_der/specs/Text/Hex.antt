-- Octets in hexadecimal digits.
use Rattle.std.specs.Prelude.{ℕ, ◌+◌, ◌/◌, ◌%◌, List, [], ◌∷◌, nat_lt, if◌then◌else◌}
use Rattle.std.specs.List.{flat_map}
use Rattle.rpki_der.specs.declared.hex.Case.{Case}
use Rattle.rpki_der.specs.declared.hex.Case.TheVariants.{Lower, Upper}

-- what a number from 10 on is added to: 10 is a, or A
abbrev pub letters : Case → ℕ
letters Lower = 0x57
letters Upper = 0x37

-- 0 to 9, from 30 hexadecimal on, and a to f, from 61 on, or A to F, from 41 on
abbrev pub digit : Case → ℕ → ℕ
digit case n = if nat_lt n 10 then 0x30 + n else letters case + n

-- two digits to base 16
abbrev pub hex_octet : Case → ℕ → List ℕ
hex_octet case octet = digit case (octet / 16) ∷ digit case (octet % 16) ∷ []

-- two digits for each octet
abbrev pub digits_of : Case → List ℕ → List ℕ
digits_of case octets = flat_map (hex_octet case) octets

-- two digits for each octet, in lower case
abbrev pub hex : List ℕ → List ℕ
hex octets = digits_of Lower octets

-- two digits for each octet, in upper case
abbrev pub upper_hex : List ℕ → List ℕ
upper_hex octets = digits_of Upper octets
