-- Serial numbers are printed by their octets.
use Rattle.std.proofs.Common.{◌≡◌, ◌<◌, ◌≤◌, ◌/◌, ◌%◌, ◌^◌, ℕ, List, [], ◌∷◌, refl}
use Rattle.std.proofs.Common.{arith, length, map, false, inl, inr}
use Rattle.std.specs.Prelude.{nat_eq}
use Rattle.std.specs.Char.{to_ascii_uppercase}
use Rattle.std.specs.Fmt.{digit_glyph}
use Rattle.std.proofs.lemmas.Bool.{cases_lt}
use Rattle.std.proofs.lemmas.Bool.Decides.{nat_tests}
use Rattle.std.proofs.lemmas.Fmt.{hex_one_digit, hex_two_digits}
use Rattle.rpki_der.specs.Grammar.{IsBytes}
use Rattle.rpki_der.specs.Text.Hex.{digit, hex, upper_hex}
use Rattle.rpki_der.specs.Write.Written.{significant}
use Rattle.rpki_der.specs.declared.hex.Case.TheVariants.{Lower, Upper}
use Rattle.rpki_der.proofs.Writing.Lengths.{test}
use Rattle.rpki_basics.specs.Serial.{digits, hex_text}
use Rattle.rpki_basics.proofs.Serials.Written.{digits-all}
use Rattle.rpki_show.specs.Texts.Serial.{paired, serial_hex, or_zero, shown_octets}

upper-digit : (k : ℕ) → k < 16 → to_ascii_uppercase (digit Lower k) ≡ digit Upper k
upper-digit k h = grind (arith, nat_tests)

upper-glyph : (k : ℕ) → k < 16 → to_ascii_uppercase (digit_glyph false k) ≡ digit Upper k
upper-glyph k h = grind (arith, nat_tests)

upper-octets : (os : List ℕ) → IsBytes os → map to_ascii_uppercase (hex os) ≡ upper_hex os
upper-octets [] b = refl
upper-octets (o ∷ os) b =
    rw (
      upper-digit (o / 16) (omega (arith, b.0)),
      upper-digit (o % 16) (omega arith),
      upper-octets os b.1,
    ) refl

even-digits : (os : List ℕ) → length (hex os) % 2 ≡ 0
even-digits [] = refl
even-digits (o ∷ os) = omega (arith, even-digits os)

paired-even : (ds : List ℕ) → length ds % 2 ≡ 0 → paired ds ≡ ds
paired-even ds h = rw h refl

paired-odd : (ds : List ℕ) → length ds % 2 ≡ 1 → paired ds ≡ 0x30 ∷ ds
paired-odd ds h = rw h refl

one-digit : (o : ℕ) (os : List ℕ) → o < 16 → o < 256 → IsBytes os
    → map to_ascii_uppercase (paired (hex_text (o ∷ os))) ≡ upper_hex (o ∷ os)
one-digit o os one small b =
    let high : o / 16 ≡ 0 = omega arith in
    let low : o % 16 ≡ o = omega arith in
    let text : hex_text (o ∷ os) ≡ digit_glyph false o ∷ hex os = rw (hex_one_digit false o one) refl in
    let odd : length (digit_glyph false o ∷ hex os) % 2 ≡ 1 = omega (arith, even-digits os) in
    rw (
      text,
      paired-odd (digit_glyph false o ∷ hex os) odd,
      upper-glyph o one,
      upper-octets os b,
      high,
      low,
    ) refl

two-digits : (o : ℕ) (os : List ℕ) → 16 ≤ o → o < 256 → IsBytes os
    → map to_ascii_uppercase (paired (hex_text (o ∷ os))) ≡ upper_hex (o ∷ os)
two-digits o os two small b =
    let text : hex_text (o ∷ os) ≡ digit_glyph false (o / 16) ∷ digit_glyph false (o % 16) ∷ hex os =
    rw (hex_two_digits false o two small) refl in
    let even : length (digit_glyph false (o / 16) ∷ digit_glyph false (o % 16) ∷ hex os) % 2 ≡ 0 =
    omega (arith, even-digits os) in
    rw (
      text,
      paired-even (digit_glyph false (o / 16) ∷ digit_glyph false (o % 16) ∷ hex os) even,
      upper-glyph (o / 16) (omega (arith, small)),
      upper-glyph (o % 16) (omega arith),
      upper-octets os b,
    ) refl

printed : (os : List ℕ) → IsBytes os
    → map to_ascii_uppercase (paired (hex_text os)) ≡ upper_hex (or_zero os)
printed [] b = refl
printed (o ∷ os) b = elim (cases_lt o 16) [
  | inl one ↦ one-digit o os one b.0 b.1
  | inr two ↦ two-digits o os two b.0 b.1
]

significant-bytes : (ds : List ℕ) → IsBytes ds → IsBytes (significant ds)
significant-bytes [] b = b
significant-bytes (d ∷ ds) b =
    elim (test (nat_eq d 0)) [
      | inl e ↦ rw e (significant-bytes ds b.1)
      | inr e ↦ rw e b
    ]

pub serial-printed : (n : ℕ) → n < 2 ^ 160 → serial_hex n ≡ upper_hex (shown_octets n)
unfolding serial_hex
serial-printed n h =
    printed (significant (digits 20 n)) (significant-bytes (digits 20 n) (digits-all n h).0.1)
