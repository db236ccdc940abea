-- strings of bits
use Rattle.std.proofs.Common.{◌≡◌, ℕ, suc, ◌+◌, ◌-◌, ◌^◌, ◌<◌, true, ltb, List, [], ◌∷◌, ◌++◌}
use Rattle.std.proofs.Common.{length, take, get_or, Some, refl, sym, ap, ◌∙◌, arith, inl, inr}
use Rattle.std.proofs.Common.{eq-eqb}
use Rattle.std.proofs.lemmas.Bool.{lt-ltb, ltb-true, ne_eqb}
use Rattle.rpki_der.specs.Tags.{BIT_STRING}
use Rattle.rpki_der.specs.declared.mode.Mode.{Mode}
use Rattle.rpki_der.specs.declared.mode.Mode.TheVariants.{Der}
use Rattle.rpki_der.specs.Bits.{IsBits, are_bits}
use Rattle.rpki_der.specs.Read.Parse.{bits_of, bits_at}
use Rattle.rpki_der.specs.Grammar.{BitString, IsBitString, IsBytes}
use Rattle.rpki_der.proofs.Reading.Scan.{tag-sound}
use Rattle.rpki_der.proofs.Writing.Lengths.{test, value-written}
use Rattle.rpki_der.proofs.Writing.Leaves.{primitive-read, within-unique}
use native.Mathlib.Numerals.{unary_clauses}
use Rattle.rpki_der.specs.Write.Written.{value_octets, unused_bits, zero_bits, zero_last}
use Rattle.rpki_der.specs.Write.Written.{bit_string_contents}

pub length_zero_last : (octets : List ℕ) (unused : ℕ)
    → length (zero_last octets unused) ≡ length octets
length_zero_last [] unused = refl
length_zero_last (a ∷ []) unused = refl
length_zero_last (a ∷ b ∷ octets) unused = ap (λ n. suc n) (length_zero_last (b ∷ octets) unused)

-- the octets before the last one, and the last one
pub zero_last_split : (octets : List ℕ) (unused d : ℕ) → 0 < length octets
    → zero_last octets unused ≡ take (length octets - 1) octets
    ++ zero_bits (get_or octets (length octets - 1) d) unused ∷ []
zero_last_split [] unused d h = absurd (omega arith)
zero_last_split (a ∷ []) unused d h = refl
zero_last_split (a ∷ b ∷ octets) unused d h =
    simp unary_clauses (ap (λ ys. a ∷ ys)
    (simp unary_clauses at (zero_last_split (b ∷ octets) unused d (omega arith))))

unused-few : (octets : List ℕ) (unused : ℕ) → unused_bits octets unused < 8
unused-few [] unused = omega arith
unused-few (a ∷ octets) unused =
    elim (test (ltb unused 8)) [
      | inl e ↦ rw e (ltb-true _ _ e)
      | inr e ↦ rw e (omega arith)
    ]

unused-none : (octets : List ℕ) (unused : ℕ)
    → length (zero_last octets (unused_bits octets unused)) ≡ 0 → unused_bits octets unused ≡ 0
unused-none [] unused h = refl
unused-none (a ∷ octets) unused h =
    absurd (omega (arith, h, length_zero_last (a ∷ octets) (unused_bits (a ∷ octets) unused)))

pub bits-are : (octets : List ℕ) (unused : ℕ)
    → IsBits (zero_last octets (unused_bits octets unused)) (unused_bits octets unused)
bits-are octets unused = record { few = unused-few octets unused; none = unused-none octets unused }

pub unused-same : (octets : List ℕ) (unused : ℕ) → IsBits octets unused
    → unused_bits octets unused ≡ unused
unused-same [] unused h = sym (h.none refl)
unused-same (a ∷ octets) unused h = rw (lt-ltb _ _ h.few) refl

zero_last-none : (octets : List ℕ) → zero_last octets 0 ≡ octets
zero_last-none [] = refl
zero_last-none (a ∷ []) = ap (λ (b : ℕ). b ∷ []) (omega arith)
zero_last-none (a ∷ b ∷ octets) = ap (λ (ys : List ℕ). a ∷ ys) (zero_last-none (b ∷ octets))

pub bits-whole : (octets : List ℕ) → bit_string_contents octets 0 ≡ 0 ∷ octets
bits-whole [] = refl
bits-whole (a ∷ octets) = ap (λ (ys : List ℕ). 0 ∷ ys) (zero_last-none (a ∷ octets))

-- what reading tests
pub are-bits : (octets : List ℕ) (unused : ℕ) → IsBits octets unused → are_bits octets unused ≡ true
are-bits [] unused h = rw (lt-ltb _ _ h.few) (eq-eqb unused 0 (h.none refl))
are-bits (a ∷ octets) unused h =
    rw (lt-ltb _ _ h.few, ne_eqb (length (a ∷ octets)) 0 (λ e. absurd (omega (arith, e)))) refl

bits-of : (octets : List ℕ) (unused : ℕ) → IsBits octets unused
    → bits_of (unused ∷ octets) ≡ Some (octets, unused)
unfolding bits_of
bits-of octets unused h = rw (are-bits octets unused h) refl

short-bits : (octets : List ℕ) (unused : ℕ) → length octets + 1 < 2 ^ 32
    → length (bit_string_contents octets unused) < 2 ^ 32
short-bits octets unused h = omega (arith, h, length_zero_last octets (unused_bits octets unused))

pub bits-written : (octets : List ℕ) (unused : ℕ) → length octets + 1 < 2 ^ 32
    → BitString Der (value_octets BIT_STRING (bit_string_contents octets unused))
    (zero_last octets (unused_bits octets unused), unused_bits octets unused)
bits-written octets unused h = (
  bit_string_contents octets unused,
  value-written 3 (bit_string_contents octets unused) (tag-sound 3 refl)
      (short-bits octets unused h),
  (refl, bits-are octets unused),
)

pub bits-read : (mode : Mode) (octets rest : List ℕ) (unused : ℕ) → length octets + 1 < 2 ^ 32
    → bits_at mode (value_octets BIT_STRING (bit_string_contents octets unused) ++ rest)
    ≡ Some ((zero_last octets (unused_bits octets unused), unused_bits octets unused), rest)
bits-read mode octets rest unused h =
    primitive-read 3 bits_of mode (bit_string_contents octets unused) rest
    (zero_last octets (unused_bits octets unused), unused_bits octets unused) (tag-sound 3 refl)
    (short-bits octets unused h)
    (bits-of (zero_last octets (unused_bits octets unused)) (unused_bits octets unused)
    (bits-are octets unused))

pub bits-unique : (o octets : List ℕ) (unused : ℕ) → IsBytes o → BitString Der o (octets, unused)
    → zero_last octets unused ≡ octets
    → o ≡ value_octets BIT_STRING (bit_string_contents octets unused)
bits-unique o octets unused bytes h zeros =
    let same : unused_bits octets unused ≡ unused = unused-same octets unused h.2.1 in
    rw same (within-unique 3 (λ c. IsBitString c (octets, unused)) o
    (unused ∷ zero_last octets unused) bytes
    (λ c is. is.0 ∙ ap (λ (ys : List ℕ). unused ∷ ys) (sym zeros)) h)
