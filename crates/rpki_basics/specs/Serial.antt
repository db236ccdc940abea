-- Serial numbers.
use Rattle.std.specs.Prelude.{◌≡◌, ℕ, zero, suc, ◌/◌, ◌%◌, ◌^◌, List, [], ◌∷◌, ◌++◌, length, codes}
use Rattle.std.specs.Prelude.{false}
use Rattle.std.specs.Fmt.{digits as to_base}
use Rattle.rpki_der.specs.declared.mode.Mode.{Mode}
use Rattle.rpki_der.specs.Grammar.{IntegerBelow, IsBytes}
use Rattle.rpki_der.specs.Text.Hex.{hex}
use Rattle.rpki_der.specs.Write.Written.{value_octets, integer_contents, significant}
use Rattle.rpki_der.specs.Tags.{INTEGER}

-- The digits to base 256 of a number below 256^count, of which there are count, the highest one
-- first. Of a greater number the first one is no digit: it holds all that the others leave.
unfoldable pub digits : ℕ → ℕ → List ℕ
digits zero n = []
digits (suc count) n = (n / 256 ^ count) ∷ digits count (n % 256 ^ count)

-- An INTEGER that is not negative and below 2^160. In RFC 5280, section 4.1.2.2, it is positive and
-- has 20 octets at most: that zero may come, and contents of 21 octets, is this project's own rule.
abbrev pub SerialForm : Mode → List ℕ → ℕ → Type 0
SerialForm mode octets n = IntegerBelow (2 ^ 160) mode octets n

-- There are twenty octets.
abbrev pub IsDigits : List ℕ → Type 0
IsDigits octets = (length octets ≡ 20) × IsBytes octets

-- The number as an INTEGER in its shortest form.
abbrev pub serial_octets : ℕ → List ℕ
serial_octets n = value_octets INTEGER (integer_contents (digits 20 n))

-- Octets in lower hexadecimal digits, the first without a zero in front; 0 for no octets.
abbrev pub hex_text : List ℕ → List ℕ
hex_text [] = codes "0"
hex_text (first ∷ others) = to_base 16 false first ++ hex others

-- A number in lower hexadecimal digits, without zeros in front; 0 for zero.
abbrev pub serial_text : ℕ → List ℕ
serial_text n = hex_text (significant (digits 20 n))
