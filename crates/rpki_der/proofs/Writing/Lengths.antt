-- the length that is written is the shortest one
use Rattle.std.proofs.Common.{◌≡◌, ℕ, ◌+◌, ◌*◌, ◌/◌, ◌%◌, ◌^◌, ◌≤◌, ◌<◌, Bool, true, false, ltb}
use Rattle.std.proofs.Common.{List, [], ◌∷◌, ◌++◌, length, drop, refl, ap, ◌∙◌, subst, arith}
use Rattle.std.proofs.Common.{length-append, inl, inr}
use Rattle.std.specs.Prelude.{◌⊎◌}
use Rattle.std.specs.Int.{w32, to_be_bytes}
use Rattle.std.proofs.lemmas.Bool.{ltb-true, ltb-false, lt-ltb, le-ltb}
use Rattle.rpki_der.specs.declared.mode.Mode.TheVariants.{Der, Ber}
use Rattle.rpki_der.specs.Numbers.{number, least}
use Rattle.rpki_der.specs.Grammar.{IsShortest, IsLength, IsBytes, Value, definite, indefinite}
use Rattle.rpki_der.specs.Identifier.{IsTag}
use Rattle.rpki_der.specs.Write.Written.{length_octets, value_octets}
use Rattle.rpki_der.proofs.Reading.Exact.{IsBytes-left}

pub test : (b : Bool) → (b ≡ true) ⊎ (b ≡ false)
test true = inl refl
test false = inr refl

pub length-written : (n : ℕ) → n < 2 ^ 32 → IsLength Der (length_octets n) n
unfolding length_octets
length-written n h =
    elim (test (ltb n 0x80)) [
      | inl e ↦ let lt : n < 128 = ltb-true _ _ e in
          rw e (inl (ap (λ (d : ℕ). d ∷ []) (omega arith), lt))
      | inr e ↦ let ge : 128 ≤ n = ltb-false _ _ e in
          elim (test (ltb n 0x100)) [
            | inl e2 ↦ let lt : n < 256 = ltb-true _ _ e2 in
                rw (e, e2) (inr (
                  drop 3 (to_be_bytes w32 n),
                  refl,
                  omega arith,
                  omega arith,
                  omega arith,
                  ge,
                ))
            | inr e2 ↦ let ge2 : 256 ≤ n = ltb-false _ _ e2 in
                elim (test (ltb n 0x10000)) [
                  | inl e3 ↦ let lt : n < 65536 = ltb-true _ _ e3 in
                      rw (e, e2, e3) (inr (
                        drop 2 (to_be_bytes w32 n),
                        refl,
                        omega arith,
                        omega arith,
                        omega arith,
                        ge2,
                      ))
                  | inr e3 ↦ let ge3 : 65536 ≤ n = ltb-false _ _ e3 in
                      elim (test (ltb n 0x1000000)) [
                        | inl e4 ↦ let lt : n < 16777216 = ltb-true _ _ e4 in
                            rw (e, e2, e3, e4) (inr (
                              drop 1 (to_be_bytes w32 n),
                              refl,
                              omega arith,
                              omega arith,
                              omega arith,
                              ge3,
                            ))
                        | inr e4 ↦ let ge4 : 16777216 ≤ n = ltb-false _ _ e4 in
                            rw (e, e2, e3, e4) (inr (
                              to_be_bytes w32 n,
                              refl,
                              omega arith,
                              omega arith,
                              omega arith,
                              ge4,
                            ))
                      ]
                ]
          ]
    ]

pub short-unique : (n : ℕ) → n < 128 → n ∷ [] ≡ length_octets n
unfolding length_octets
short-unique n h = rw (lt-ltb n 0x80 h) (ap (λ (d : ℕ). d ∷ []) (omega arith))

long1-unique : (a n : ℕ) → a < 256 → n ≡ a → 128 ≤ n → 129 ∷ a ∷ [] ≡ length_octets n
unfolding length_octets
long1-unique a n ha e h =
    rw (le-ltb n 0x80 h, lt-ltb n 0x100 (omega arith)) (ap (λ (d : ℕ). 129 ∷ d ∷ []) (omega arith))

long2-unique : (a b n : ℕ) → a < 256 → b < 256 → n ≡ a * 256 + b → 256 ≤ n
    → 130 ∷ a ∷ b ∷ [] ≡ length_octets n
unfolding length_octets
long2-unique a b n ha hb e h =
    let pa : a ≡ n / 256 % 256 = omega arith in
    let pb : b ≡ n % 256 = omega arith in
    rw (le-ltb n 0x80 (omega arith), le-ltb n 0x100 h, lt-ltb n 0x10000 (omega arith))
    (rw (← pa, ← pb) refl)

long3-unique : (a b c n : ℕ) → a < 256 → b < 256 → c < 256 → n ≡ (a * 256 + b) * 256 + c → 65536 ≤ n
    → 131 ∷ a ∷ b ∷ c ∷ [] ≡ length_octets n
unfolding length_octets
long3-unique a b c n ha hb hc e h =
    let pa : a ≡ n / 65536 % 256 = omega arith in
    let pb : b ≡ n / 256 % 256 = omega arith in
    let pc : c ≡ n % 256 = omega arith in
    rw (
      le-ltb n 0x80 (omega arith),
      le-ltb n 0x100 (omega arith),
      le-ltb n 0x10000 h,
      lt-ltb n 0x1000000 (omega arith),
    ) (rw (← pa, ← pb, ← pc) refl)

long4-unique : (a b c d n : ℕ) → a < 256 → b < 256 → c < 256 → d < 256
    → n ≡ ((a * 256 + b) * 256 + c) * 256 + d → 16777216 ≤ n
    → 132 ∷ a ∷ b ∷ c ∷ d ∷ [] ≡ length_octets n
unfolding length_octets
long4-unique a b c d n ha hb hc hd e h =
    let pa : a ≡ n / 16777216 % 256 = omega arith in
    let pb : b ≡ n / 65536 % 256 = omega arith in
    let pc : c ≡ n / 256 % 256 = omega arith in
    let pd : d ≡ n % 256 = omega arith in
    rw (
      le-ltb n 0x80 (omega arith),
      le-ltb n 0x100 (omega arith),
      le-ltb n 0x10000 (omega arith),
      le-ltb n 0x1000000 h,
    ) (rw (← pa, ← pb, ← pc, ← pd) refl)

long-unique : (digits : List ℕ) (n : ℕ) → IsBytes digits → 1 ≤ length digits → length digits ≤ 4
    → n ≡ number 0 digits → IsShortest Der (least (length digits)) n
    → (128 + length digits) ∷ digits ≡ length_octets n
long-unique [] n bytes some few e low = absurd (omega arith)
long-unique (a ∷ []) n bytes some few e low = long1-unique a n bytes.0 (omega arith) low
long-unique (a ∷ b ∷ []) n bytes some few e low =
    long2-unique a b n bytes.0 bytes.1.0 (omega arith) low
long-unique (a ∷ b ∷ c ∷ []) n bytes some few e low =
    long3-unique a b c n bytes.0 bytes.1.0 bytes.1.1.0 (omega arith) low
long-unique (a ∷ b ∷ c ∷ d ∷ []) n bytes some few e low =
    long4-unique a b c d n bytes.0 bytes.1.0 bytes.1.1.0 bytes.1.1.1.0 (omega arith) low
long-unique (a ∷ b ∷ c ∷ d ∷ f ∷ digits) n bytes some few e low = absurd (omega arith)

pub length-unique : (l : List ℕ) (n : ℕ) → IsBytes l → IsLength Der l n → l ≡ length_octets n
length-unique l n bytes (inl h) = h.0 ∙ short-unique n h.1
length-unique l n bytes (inr h) =
    let digits : IsBytes ((128 + length h.0) ∷ h.0) = subst IsBytes h.1 bytes in
    h.1 ∙ long-unique h.0 n digits.1 h.2 h.3 h.4 h.5

-- what is left of the octets of a value after its identifier and its length
pub contents_left : (tag : ℕ) (c : List ℕ) (len : ℕ) → len ≡ length (value_octets tag c)
    → len ≡ 1 + length (length_octets (length c)) + length c
contents_left tag c len e = omega (arith, e, length-append (length_octets (length c)) c)

pub value-written : (tag : ℕ) (c : List ℕ) → IsTag tag → length c < 2 ^ 32
    → Value Der (value_octets tag c) tag c
value-written tag c is short =
    definite Der (value_octets tag c) tag (length_octets (length c)) c is
    (length-written (length c) short) refl

pub value-unique : (o : List ℕ) (tag : ℕ) (c : List ℕ) → IsBytes o → Value Der o tag c
    → o ≡ value_octets tag c
value-unique o tag c bytes (definite _ _ _ l _ is len e) =
    let all : IsBytes (tag ∷ (l ++ c)) = subst IsBytes e bytes in
    e ∙ ap (λ (x : List ℕ). tag ∷ (x ++ c))
    (length-unique l (length c) (IsBytes-left l c all.1) len)
value-unique o tag c bytes (indefinite _ _ _ _ m is cons vs e) = absurd (let no : Der ≡ Ber = m in
    cc)
