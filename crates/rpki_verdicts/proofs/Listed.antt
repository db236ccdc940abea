-- A verdict of a list as a test, and the octets of a key as pieces.
use Rattle.std.proofs.Common.{◌≡◌, ℕ, ◌+◌, ◌<◌, ◌^◌, List, [], ◌∷◌, ◌++◌, length}
use Rattle.std.proofs.Common.{refl}
use Rattle.std.proofs.Common.{sym, ap, ◌∙◌, arith, append_assoc, length-append}
use Rattle.std.specs.Prelude.{bytes_eq, nat_lt}
use Rattle.std.specs.Bool.{Decides}
use Rattle.std.specs.List.{Contains}
use Rattle.std.proofs.lemmas.Bool.Decides.{Decides-ltb, Decides-and}
use Rattle.std.proofs.lemmas.List.Folds.{list_any_at}
use Rattle.std.proofs.lemmas.Map.Views.{Contains-from_any}
use Rattle.std.proofs.lemmas.Slice.Eq.{bytes_eq-Decides}
use Rattle.rpki_der.specs.Write.Written.{length_octets, value_octets, bit_string_contents}
use Rattle.rpki_der.specs.Write.Written.{length_value_octets_le}
use Rattle.rpki_der.specs.Tags.{BIT_STRING}
use Rattle.rpki_der.proofs.Writing.Strings.{bits-whole}
use Rattle.rpki_basics.specs.Algorithm.{algorithm_and_null, rsa_encryption}
use Rattle.rpki_basics.specs.Key.{key_contents, key_octets}
use Rattle.rpki_verdicts.specs.Listed.{IsListed, has_line, is_listed}
use Rattle.rpki_verdicts.specs.Verdicts.{digest_text, line_of}

-- ---- a line of the list

line-decided : (lines : List (List ℕ)) (line : List ℕ)
    → Decides (has_line lines line) (Contains lines line)
line-decided lines line = (
  λ e. Contains-from_any {eq = bytes_eq} (λ x y h. (bytes_eq-Decides x y).0 h) line lines e,
  λ h. list_any_at (bytes_eq line) lines h.0 line h.1 ((bytes_eq-Decides line _).1 (sym h.2)),
)

pub listed-decided : (lines : List (List ℕ)) (key message signature : List ℕ)
    → Decides (is_listed lines key message signature) (IsListed lines key message signature)
listed-decided lines key message signature =
    let d = Decides-and (nat_lt (length (key_contents key)) (2 ^ 32)) _
    (Decides-ltb (length (key_contents key)) (2 ^ 32))
    (line-decided lines
    (line_of (digest_text (key_octets key)) (digest_text message) (digest_text signature))) in (
      λ e. let p = d.0 e in record { short = p.0; is_yes = p.1 },
      λ h. d.1 (h.short, h.is_yes),
    )

-- ---- the octets of a key

algorithm-octets : algorithm_and_null rsa_encryption ≡
    0x30 ∷ 0x0D ∷ 0x06 ∷ 0x09 ∷ 0x2A ∷ 0x86 ∷ 0x48 ∷ 0x86 ∷ 0xF7 ∷ 0x0D ∷ 0x01 ∷ 0x01 ∷ 0x01 ∷ 0x05
    ∷ 0x00 ∷ []
unfolding length_octets
algorithm-octets = refl

pub key-len : (bits : List ℕ) (n : ℕ)
    → n ≡ length (value_octets BIT_STRING (bit_string_contents bits 0))
    → length (key_contents bits) ≡ n + 15
key-len bits n e =
    let a : length (algorithm_and_null rsa_encryption) ≡ 15 =
    ap (λ (xs : List ℕ). length xs) algorithm-octets in
    omega (
      arith,
      a,
      e,
      length-append (algorithm_and_null rsa_encryption)
          (value_octets BIT_STRING (bit_string_contents bits 0)),
    )

-- so few bits have a BIT STRING whose length fits
pub bits-fit : (bits : List ℕ) (n : ℕ)
    → n ≡ length (value_octets BIT_STRING (bit_string_contents bits 0))
    → length (bit_string_contents bits 0) < 2 ^ 32 → n + 15 < 2 ^ 64
bits-fit bits n e h =
    omega (arith, e, h, length_value_octets_le BIT_STRING (bit_string_contents bits 0))

-- the bits of a key whose contents have a length below 2^32
pub few-bits : (bits : List ℕ) (n : ℕ) → n ≡ length (key_contents bits) → n < 2 ^ 32
    → length bits + 1 < 2 ^ 32
few-bits bits n e h =
    let w : length (bit_string_contents bits 0) ≡ length bits + 1 =
    ap (λ (xs : List ℕ). length xs) (bits-whole bits) ∙ omega arith in
    omega (
      arith,
      e,
      h,
      w,
      key-len bits _ refl,
      length-append (length_octets (length (bit_string_contents bits 0)))
          (bit_string_contents bits 0),
    )

joined : (a b c d e : List ℕ) → ((((a ++ b) ++ c) ++ d) ++ e) ≡ a ++ (b ++ (c ++ (d ++ e)))
joined a b c d e =
    append_assoc ((a ++ b) ++ c) d e
    ∙ (append_assoc (a ++ b) c (d ++ e) ∙ append_assoc a b (c ++ (d ++ e)))

-- the pieces of a key make its octets
pub pieces : (bits : List ℕ) (len m : ℕ) → len ≡ length (key_contents bits) → m ≡ length bits + 1
    → (((((0x30 ∷ length_octets len) ++ (0x30 ∷ 0x0D ∷ 0x06 ∷ 0x09 ∷ 0x2A ∷ 0x86 ∷ 0x48 ∷ 0x86
    ∷ 0xF7 ∷ 0x0D ∷ 0x01 ∷ 0x01 ∷ 0x01 ∷ 0x05 ∷ 0x00 ∷ [])) ++ (0x03 ∷ length_octets m))
    ++ (0x00 ∷ []))
    ++ bits) ≡ key_octets bits
pieces bits len m e h =
    let b : List ℕ = 0x30 ∷ 0x0D ∷ 0x06 ∷ 0x09 ∷ 0x2A ∷ 0x86 ∷ 0x48 ∷ 0x86 ∷ 0xF7 ∷ 0x0D ∷ 0x01
    ∷ 0x01 ∷ 0x01 ∷ 0x05 ∷ 0x00 ∷ [] in
    let bc : List ℕ = bit_string_contents bits 0 in
    let few : length (0 ∷ bits) ≡ m = omega (arith, h) in
    let t : key_contents bits ≡ b ++ (0x03 ∷ (length_octets m ++ (0x00 ∷ bits))) =
    ap (λ (x : List ℕ). x ++ (0x03 ∷ (length_octets (length bc) ++ bc))) algorithm-octets
    ∙ (ap (λ (y : List ℕ). b ++ (0x03 ∷ (length_octets (length y) ++ y))) (bits-whole bits)
    ∙ ap (λ (k : ℕ). b ++ (0x03 ∷ (length_octets k ++ (0x00 ∷ bits)))) few) in
    joined (0x30 ∷ length_octets len) b (0x03 ∷ length_octets m) (0x00 ∷ []) bits
    ∙ (ap (λ (k : ℕ).
    0x30 ∷ (length_octets k ++ (b ++ (0x03 ∷ (length_octets m ++ (0x00 ∷ bits))))))
    e
    ∙ ap (λ (z : List ℕ). 0x30 ∷ (length_octets (length (key_contents bits)) ++ z)) (sym t))
