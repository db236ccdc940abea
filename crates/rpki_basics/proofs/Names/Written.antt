-- The name of a key, octet by octet.
use Rattle.rpki_der.specs.Tags.{OBJECT_IDENTIFIER, PRINTABLE_STRING, SEQUENCE, SET}
use Rattle.std.proofs.Common.{◌≡◌, ℕ, ◌+◌, ◌<◌, List, [], ◌∷◌, ◌++◌, length, refl, sym, ap, ◌∙◌}
use Rattle.std.proofs.Common.{arith, length-append, true, suc}
use Rattle.std.specs.Prelude.{◌^◌}
use Rattle.rpki_der.specs.Identifier.{IsTag, is_constructed}
use Rattle.rpki_der.specs.Grammar.{Skipped, ListOf}
use Rattle.std.proofs.lemmas.List.{append-nil}
use Rattle.rpki_der.specs.declared.mode.Mode.TheVariants.{Der}
use Rattle.rpki_der.specs.Write.Written.{value_octets, length_octets, length_value_octets_le}
use Rattle.rpki_der.proofs.Reading.Scan.{tag-sound}
use Rattle.rpki_der.proofs.Writing.Lengths.{value-written}
use Rattle.rpki_der.specs.Text.Hex.{upper_hex}
use Rattle.rpki_basics.specs.Name.{IsName, common_name, KeyNameForm, key_name_octets}
use Rattle.rpki_basics.proofs.Algorithms.Written.{oid-written}

pub length-hex : (octets : List ℕ) → length (upper_hex octets) ≡ length octets + length octets
length-hex [] = refl
length-hex (octet ∷ octets) =
    let h : length (upper_hex octets) ≡ length octets + length octets = length-hex octets in
    omega (arith, h)

value-is : (tag n : ℕ) (c d : List ℕ) → c ≡ d → length d ≡ n → length_octets n ≡ n ∷ []
    → value_octets tag c ≡ tag ∷ n ∷ d
value-is tag n c d e l o =
    ap (value_octets tag) e ∙ ap (λ (k : ℕ). tag ∷ (length_octets k ++ d)) l
    ∙ ap (λ (x : List ℕ). tag ∷ (x ++ d)) o

short-3 : length_octets 3 ≡ 3 ∷ []
unfolding length_octets
short-3 = refl

short-40 : length_octets 40 ≡ 40 ∷ []
unfolding length_octets
short-40 = refl

short-47 : length_octets 47 ≡ 47 ∷ []
unfolding length_octets
short-47 = refl

short-49 : length_octets 49 ≡ 49 ∷ []
unfolding length_octets
short-49 = refl

short-51 : length_octets 51 ≡ 51 ∷ []
unfolding length_octets
short-51 = refl

-- what stands before the digits
abbrev pub head : List ℕ
head =
    0x30 ∷ 0x33 ∷ 0x31 ∷ 0x31 ∷ 0x30 ∷ 0x2F ∷ 0x06 ∷ 0x03 ∷ 0x55 ∷ 0x04 ∷ 0x03 ∷ 0x13 ∷ 0x28 ∷ []

abbrev contents : List ℕ → List ℕ
contents h = 0x06 ∷ 0x03 ∷ 0x55 ∷ 0x04 ∷ 0x03 ∷ 0x13 ∷ 0x28 ∷ h

pub key-name-is : (id : List ℕ) → length id ≡ 20 → head ++ upper_hex id ≡ key_name_octets id
key-name-is id e =
    let h : List ℕ = upper_hex id in
    let l : length (upper_hex id) ≡ 40 = omega (arith, e, length-hex id) in
    let o : value_octets OBJECT_IDENTIFIER common_name ≡ 0x06 ∷ 0x03 ∷ common_name =
    value-is OBJECT_IDENTIFIER 3 common_name common_name refl refl short-3 in
    let s : value_octets PRINTABLE_STRING (upper_hex id) ≡ 0x13 ∷ 0x28 ∷ upper_hex id =
    value-is PRINTABLE_STRING 40 h h refl l short-40 in
    let both : value_octets OBJECT_IDENTIFIER common_name
    ++ value_octets PRINTABLE_STRING (upper_hex id)
    ≡ contents (upper_hex id) =
    ap (λ (x : List ℕ). x ++ value_octets PRINTABLE_STRING (upper_hex id)) o
    ∙ ap (λ (x : List ℕ). (0x06 ∷ 0x03 ∷ common_name) ++ x) s in
    let one = value-is SEQUENCE 47 _ (contents h) both (omega (arith, l)) short-47 in
    let two = value-is SET 49 _ (0x30 ∷ 0x2F ∷ contents h) one (omega (arith, l)) short-49 in
    sym (value-is SEQUENCE 51 _ (0x31 ∷ 0x31 ∷ 0x30 ∷ 0x2F ∷ contents h) two (omega (arith, l))
    short-51)

pub key-name-written : (id : List ℕ) → length id ≡ 20
    → KeyNameForm Der (key_name_octets id) id
key-name-written id e =
    let h : List ℕ = upper_hex id in
    let l : length (upper_hex id) ≡ 40 = omega (arith, e, length-hex id) in
    let a : List ℕ = value_octets OBJECT_IDENTIFIER common_name in
    let b : List ℕ = value_octets PRINTABLE_STRING (upper_hex id) in
    let c3 : List ℕ = value_octets OBJECT_IDENTIFIER common_name
    ++ value_octets PRINTABLE_STRING (upper_hex id) in
    let c2 : List ℕ = value_octets SEQUENCE c3 in
    let c1 : List ℕ = value_octets SET c2 in
    let la : length (value_octets OBJECT_IDENTIFIER common_name) < 20 =
    omega (arith, length_value_octets_le OBJECT_IDENTIFIER common_name) in
    let lb : length (value_octets PRINTABLE_STRING (upper_hex id)) < 50 =
    omega (arith, l, length_value_octets_le PRINTABLE_STRING (upper_hex id)) in
    let l3 : length c3 < 80 = omega (arith, la, lb, length-append a b) in
    let l2 : length c2 < 100 = omega (arith, l3, length_value_octets_le SEQUENCE c3) in
    let l1 : length c1 < 120 = omega (arith, l2, length_value_octets_le SET c2) in (
      c1,
      value-written SEQUENCE c1 (tag-sound SEQUENCE refl) (omega (arith, l1)),
      (
        c1,
        [],
        sym (append-nil c1),
        (
          c2,
          value-written SET c2 (tag-sound SET refl) (omega (arith, l2)),
          (
            c2,
            [],
            sym (append-nil c2),
            (
              c3,
              value-written SEQUENCE c3 (tag-sound SEQUENCE refl) (omega (arith, l3)),
              (
                a,
                b,
                refl,
                oid-written common_name (omega arith, omega arith) (omega arith),
                (
                  b,
                  [],
                  sym (append-nil b),
                  value-written PRINTABLE_STRING h (tag-sound PRINTABLE_STRING refl)
                      (omega (arith, l)),
                  refl,
                ),
              ),
            ),
            refl,
          ),
        ),
        refl,
      ),
    )

-- ---- the same as a name that is skipped

one : (G : List ℕ → Type 0) (o : List ℕ) → G o → ListOf G o
one G o g = (tt ∷ [], (o, [], sym (append-nil o), g, refl))

two : (G : List ℕ → Type 0) (a b : List ℕ) → G a → G b → ListOf G (a ++ b)
two G a b g h = (tt ∷ tt ∷ [], (a, b, refl, g, (b, [], sym (append-nil b), h, refl)))

skipped : (depth tag : ℕ) (c : List ℕ) → IsTag tag → length c < 2 ^ 32
    → (is_constructed tag ≡ true → ListOf (Skipped Der depth) c)
    → Skipped Der (suc depth) (value_octets tag c)
unfolding Skipped
skipped depth tag c t l h = (tag, c, value-written tag c t l, h)

pub key-name-skipped : (id : List ℕ) → length id ≡ 20 → IsName Der (key_name_octets id)
key-name-skipped id e =
    let l : length (upper_hex id) ≡ 40 = omega (arith, e, length-hex id) in
    let a : List ℕ = value_octets OBJECT_IDENTIFIER common_name in
    let b : List ℕ = value_octets PRINTABLE_STRING (upper_hex id) in
    let c3 : List ℕ = value_octets OBJECT_IDENTIFIER common_name
    ++ value_octets PRINTABLE_STRING (upper_hex id) in
    let c2 : List ℕ = value_octets SEQUENCE c3 in
    let c1 : List ℕ = value_octets SET c2 in
    let la : length (value_octets OBJECT_IDENTIFIER common_name) < 20 =
    omega (arith, length_value_octets_le OBJECT_IDENTIFIER common_name) in
    let lb : length (value_octets PRINTABLE_STRING (upper_hex id)) < 50 =
    omega (arith, l, length_value_octets_le PRINTABLE_STRING (upper_hex id)) in
    let l3 : length c3 < 80 = omega (arith, la, lb, length-append a b) in
    let l2 : length c2 < 100 = omega (arith, l3, length_value_octets_le SEQUENCE c3) in
    let l1 : length c1 < 120 = omega (arith, l2, length_value_octets_le SET c2) in
    let sa : Skipped Der 30 a =
    skipped 29 OBJECT_IDENTIFIER common_name (tag-sound OBJECT_IDENTIFIER refl) (omega arith)
    (λ q. absurd cc) in
    let sb : Skipped Der 30 b =
    skipped 29 PRINTABLE_STRING (upper_hex id) (tag-sound PRINTABLE_STRING refl) (omega (arith, l))
    (λ q. absurd cc) in
    let s2 : Skipped Der 31 c2 =
    skipped 30 SEQUENCE c3 (tag-sound SEQUENCE refl) (omega (arith, l3))
    (λ _. two (Skipped Der 30) a b sa sb) in
    let s1 : Skipped Der 32 c1 =
    skipped 31 SET c2 (tag-sound SET refl) (omega (arith, l2))
    (λ _. one (Skipped Der 31) c2 s2) in (
      c1,
      value-written SEQUENCE c1 (tag-sound SEQUENCE refl) (omega (arith, l1)),
      one (Skipped Der 32) c1 s1,
    )
