-- Numbers in hexadecimal: serial numbers as `openssl x509 -serial` prints them, or plain digits.
use Rattle.std.specs.Prelude.{ℕ, ◌%◌, List, [], ◌∷◌, ◌==◌, if◌then◌else◌, length, map}
use Rattle.std.specs.Char.{to_ascii_uppercase}
use Rattle.rpki_der.specs.Write.Written.{significant}
use Rattle.rpki_basics.specs.Serial.{digits, serial_text}
use Rattle.rpki_show.specs.declared.texts.serial.Hexadecimal.{Hexadecimal}
use Rattle.rpki_show.specs.declared.texts.serial.Hexadecimal.TheVariants.{Plain, Octets}

-- digits, with a 0 in front where their number is odd
abbrev pub paired : List ℕ → List ℕ
paired digits = if length digits % 2 == 0 then digits else 0x30 ∷ digits

-- A number in upper hexadecimal digits, two for each octet, without octets of zeros in front; 00
-- for zero.
unfoldable pub serial_hex : ℕ → List ℕ
serial_hex n = map to_ascii_uppercase (paired (serial_text n))

-- a number in lower hexadecimal without a zero in front, 0 for zero; or as `serial_hex` has it
abbrev pub hexadecimal : Hexadecimal → ℕ → List ℕ
hexadecimal Plain n = serial_text n
hexadecimal Octets n = serial_hex n

-- octets, or one of zero where there are none
abbrev pub or_zero : List ℕ → List ℕ
or_zero [] = 0 ∷ []
or_zero (octet ∷ octets) = octet ∷ octets

-- the octets of a number, without those of zeros in front, and one for zero
abbrev pub shown_octets : ℕ → List ℕ
shown_octets n = or_zero (significant (digits 20 n))
