-- the numbers that are written
use Rattle.std.proofs.Common.{◌≡◌, ◌≢◌, ℕ, zero, suc, ◌+◌, ◌*◌, ◌^◌, ◌≤◌, ◌<◌, true, false, ltb}
use Rattle.std.proofs.Common.{List, [], ◌∷◌, ◌++◌, length, drop, Option, Some, refl, sym, ap, ◌∙◌}
use Rattle.std.proofs.Common.{subst, arith, inl, inr, eq-eqb, ◌/◌, ◌%◌}
use Rattle.std.specs.Prelude.{nat_eq}
use Rattle.std.specs.Int.{w32, w64, to_be_bytes}
use Rattle.std.proofs.lemmas.Bool.{eqb-true, eqb-false, ne_eqb, ltb-true, ltb-false, lt-ltb, le-ltb}
use Rattle.rpki_der.specs.Tags.{INTEGER}
use Rattle.rpki_der.proofs.Reading.Integers.{number-grows}
use Rattle.rpki_der.specs.Numbers.{number}
use Rattle.rpki_der.specs.Read.Parse.{digits_of, number_of, unsigned_of}
use Rattle.rpki_der.specs.Grammar.{IsInteger, IsBytes}
use Rattle.rpki_der.specs.Write.Written.{significant, not_negative, integer_contents, value_octets}
use Rattle.rpki_der.specs.Write.Written.{number_octets, length_value_octets_le}
use Rattle.rpki_der.proofs.Writing.Lengths.{test, short-unique}

-- no zero stands in front
abbrev Starts : List ℕ → Type 0
Starts [] = Unit {0}
Starts (d ∷ ds) = d ≢ 0

significant-starts : (ds : List ℕ) → Starts (significant ds)
significant-starts [] = tt
significant-starts (d ∷ ds) =
    elim (test (nat_eq d 0)) [
      | inl e ↦ rw e (significant-starts ds)
      | inr e ↦ rw e (eqb-false d 0 e)
    ]

number-significant : (ds : List ℕ) → number 0 (significant ds) ≡ number 0 ds
number-significant [] = refl
number-significant (d ∷ ds) =
    elim (test (nat_eq d 0)) [
      | inl e ↦ let zero-is : d ≡ 0 = eqb-true d 0 e in
          let at : 0 ≡ 0 * 256 + d = omega arith in
          rw e (number-significant ds ∙ ap (λ (n : ℕ). number n ds) at)
      | inr e ↦ rw e refl
    ]

pub length-significant : (ds : List ℕ) → length (significant ds) ≤ length ds
length-significant [] = omega arith
length-significant (d ∷ ds) =
    elim (test (nat_eq d 0)) [
      | inl e ↦ let h = length-significant ds in rw e (omega (arith, h))
      | inr e ↦ rw e (omega arith)
    ]

length-not_negative : (ds : List ℕ) → length (not_negative ds) ≤ length ds + 1
length-not_negative [] = omega arith
length-not_negative (d ∷ ds) =
    elim (test (ltb d 128)) [
      | inl e ↦ rw e (omega arith)
      | inr e ↦ rw e (omega arith)
    ]

pub length-integer_contents : (ds : List ℕ) → length (integer_contents ds) ≤ length ds + 1
length-integer_contents ds =
    omega (arith, length-not_negative (significant ds), length-significant ds)

plain : (d : ℕ) (ds : List ℕ) → d ≢ 0 → d < 128 → IsInteger (d ∷ ds) (number 0 (d ∷ ds))
plain d [] ne lt = (lt, omega arith)
plain d (e ∷ ds) ne lt = (lt, (λ z. absurd (ne z)), refl)

is_integer : (ds : List ℕ) → Starts ds → IsInteger (not_negative ds) (number 0 ds)
is_integer [] h = (omega arith, refl)
is_integer (d ∷ ds) h =
    elim (test (ltb d 128)) [
      | inl e ↦ rw e (plain d ds h (ltb-true _ _ e))
      | inr e ↦ let ge : 128 ≤ d = ltb-false _ _ e in
          let at : 0 * 256 + d ≡ (0 * 256 + 0) * 256 + d = omega arith in
          rw e (omega arith, (λ _. ge), ap (λ (n : ℕ). number n ds) at)
    ]

pub integer-is : (ds : List ℕ) → IsInteger (integer_contents ds) (number 0 ds)
integer-is ds = subst (λ (n : ℕ). IsInteger (integer_contents ds) n) (number-significant ds)
    (is_integer (significant ds) (significant-starts ds))

-- the digits that are read again
abbrev shown : List ℕ → List ℕ
shown [] = 0 ∷ []
shown (d ∷ ds) = d ∷ ds

number-shown : (ds : List ℕ) → number 0 (shown ds) ≡ number 0 ds
number-shown [] = omega arith
number-shown (d ∷ ds) = refl

plain-digits : (d : ℕ) (ds : List ℕ) → d ≢ 0 → d < 128 → digits_of (d ∷ ds) ≡ Some (d ∷ ds)
unfolding digits_of
plain-digits d [] ne lt = rw (lt-ltb _ _ lt) refl
plain-digits d (e ∷ ds) ne lt = rw (lt-ltb _ _ lt, ne_eqb d 0 ne) refl

put-digits : (d : ℕ) (ds : List ℕ) → 128 ≤ d → digits_of (0 ∷ d ∷ ds) ≡ Some (d ∷ ds)
unfolding digits_of
put-digits d ds ge = rw (le-ltb d 128 ge) refl

digits-written : (ds : List ℕ) → Starts ds → digits_of (not_negative ds) ≡ Some (shown ds)
unfolding digits_of
digits-written [] h = refl
digits-written (d ∷ ds) h =
    elim (test (ltb d 128)) [
      | inl e ↦ rw e (plain-digits d ds h (ltb-true _ _ e))
      | inr e ↦ rw e (put-digits d ds (ltb-false _ _ e))
    ]

length-shown : (ds : List ℕ) (most : ℕ) → length ds ≤ most → 1 ≤ most → length (shown ds) ≤ most
length-shown [] most h k = k
length-shown (d ∷ ds) most h k = h

pub unsigned-written : (most : ℕ) (ds : List ℕ) → length (significant ds) ≤ most → 1 ≤ most
    → unsigned_of most (integer_contents ds) ≡ Some (number 0 ds)
unfolding unsigned_of number_of
unsigned-written most ds h k =
    let few : ltb most (length (shown (significant ds))) ≡ false =
    le-ltb _ _ (length-shown (significant ds) most h k) in
    let same : number 0 (shown (significant ds)) ≡ number 0 ds = number-shown (significant ds)
    ∙ number-significant ds in
    rw (digits-written (significant ds) (significant-starts ds), few)
    (ap (λ (n : ℕ). (let o : Option ℕ = Some n in o)) same)

-- the four digits of a number of 32 bits
pub number-digits : (n : ℕ) → n < 2 ^ 32 → number 0 (to_be_bytes w32 n) ≡ n
number-digits n h = omega arith

-- those of a number of 8 bits
pub significant-u8 : (n : ℕ) → n < 256 → length (significant (to_be_bytes w32 n)) ≤ 1
significant-u8 n h =
    let a : nat_eq (n / 16777216 % 256) 0 ≡ true = eq-eqb _ _ (omega arith) in
    let b : nat_eq (n / 65536 % 256) 0 ≡ true = eq-eqb _ _ (omega arith) in
    let c : nat_eq (n / 256 % 256) 0 ≡ true = eq-eqb _ _ (omega arith) in
    rw (a, b, c) (length-significant (n % 256 ∷ []))

-- ---- one way to write each number

own-two : (a b : ℕ) (rest : List ℕ) → a < 128 → (a ≡ 0 → 128 ≤ b)
    → integer_contents (a ∷ b ∷ rest) ≡ a ∷ b ∷ rest
own-two a b rest lt least =
    elim (test (nat_eq a 0)) [
      | inl e ↦
          let zero-is : a ≡ 0 = eqb-true a 0 e in
          let ge : 128 ≤ b = least zero-is in
          let some : nat_eq b 0 ≡ false = ne_eqb b 0 (λ z. absurd (omega (arith, z))) in
          let big : ltb b 128 ≡ false = le-ltb b 128 ge in
          rw (e, some, big) (ap (λ (d : ℕ). d ∷ b ∷ rest) (sym zero-is))
      | inr e ↦ rw (e, lt-ltb a 128 lt) refl
    ]

own-one : (a : ℕ) → a < 128 → integer_contents (a ∷ []) ≡ a ∷ []
own-one a lt =
    elim (test (nat_eq a 0)) [
      | inl e ↦ let zero-is : a ≡ 0 = eqb-true a 0 e in rw e (ap (λ (d : ℕ). d ∷ []) (sym zero-is))
      | inr e ↦ rw (e, lt-ltb a 128 lt) refl
    ]

four : (n w x y z : ℕ) → w < 256 → x < 256 → y < 256 → z < 256
    → n ≡ ((w * 256 + x) * 256 + y) * 256 + z → to_be_bytes w32 n ≡ w ∷ x ∷ y ∷ z ∷ []
four n w x y z hw hx hy hz e =
    let pw : n / 16777216 % 256 ≡ w = omega arith in
    let px : n / 65536 % 256 ≡ x = omega arith in
    let py : n / 256 % 256 ≡ y = omega arith in
    let pz : n % 256 ≡ z = omega arith in
    rw (pw, px, py, pz) refl

pub contents-unique : (c : List ℕ) (n : ℕ) → IsBytes c → n < 2 ^ 32 → IsInteger c n
    → c ≡ integer_contents (to_be_bytes w32 n)
contents-unique [] n bytes lt h = absurd h
contents-unique (a ∷ []) n bytes lt h =
    sym (ap integer_contents
    (four n 0 0 0 a (omega arith) (omega arith) (omega arith) bytes.0 (omega (arith, h.1)))
    ∙ own-one a h.0)
contents-unique (a ∷ b ∷ []) n bytes lt h =
    sym (ap integer_contents
    (four n 0 0 a b (omega arith) (omega arith) bytes.0 bytes.1.0 (omega (arith, h.2)))
    ∙ own-two a b [] h.0 h.1)
contents-unique (a ∷ b ∷ c ∷ []) n bytes lt h =
    sym (ap integer_contents
    (four n 0 a b c (omega arith) bytes.0 bytes.1.0 bytes.1.1.0 (omega (arith, h.2)))
    ∙ own-two a b (c ∷ []) h.0 h.1)
contents-unique (a ∷ b ∷ c ∷ d ∷ []) n bytes lt h =
    sym (ap integer_contents
    (four n a b c d bytes.0 bytes.1.0 bytes.1.1.0 bytes.1.1.1.0 (omega (arith, h.2)))
    ∙ own-two a b (c ∷ d ∷ []) h.0 h.1)
contents-unique (a ∷ b ∷ c ∷ d ∷ e ∷ []) n bytes lt h =
    let zero-is : a ≡ 0 = omega (arith, h.2, lt) in
    let from : integer_contents (a ∷ b ∷ c ∷ d ∷ e ∷ []) ≡ integer_contents (b ∷ c ∷ d ∷ e ∷ []) =
    ap (λ (z : ℕ). integer_contents (z ∷ b ∷ c ∷ d ∷ e ∷ [])) zero-is in
    sym (ap integer_contents
    (four n b c d e bytes.1.0 bytes.1.1.0 bytes.1.1.1.0 bytes.1.1.1.1.0
    (omega (arith, h.2, zero-is))) ∙ sym from ∙ own-two a b (c ∷ d ∷ e ∷ []) h.0 h.1)
contents-unique (a ∷ b ∷ c ∷ d ∷ e ∷ f ∷ rest) n bytes lt h =
    let g = number-grows rest
    ((((((0 * 256 + a) * 256 + b) * 256 + c) * 256 + d) * 256 + e) * 256 + f) in
    elim (test (nat_eq a 0)) [
      | inl z ↦ let ge : 128 ≤ b = h.1 (eqb-true a 0 z) in absurd (omega (arith, g, h.2, lt, ge))
      | inr z ↦ let ne : a ≡ 0 → ⊥ = eqb-false a 0 z in absurd (omega (arith, g, h.2, lt, ne))
    ]

-- each INTEGER that is not negative is written so of its own contents
pub own-contents : (c : List ℕ) (n : ℕ) → IsInteger c n
    → (number 0 c ≡ n) × (c ≡ integer_contents c)
own-contents [] n h = absurd h
own-contents (a ∷ []) n h = (omega (arith, h.1), sym (own-one a h.0))
own-contents (a ∷ b ∷ rest) n h = (sym h.2, sym (own-two a b rest h.0 h.1))

-- ---- digits without zeros in front are those of one number

pub number-injective : (xs ys : List ℕ) (a b : ℕ) → length xs ≡ length ys → IsBytes xs → IsBytes ys
    → number a xs ≡ number b ys → (a ≡ b) × (xs ≡ ys)
number-injective [] [] a b l hx hy e = (e, refl)
number-injective [] (y ∷ ys) a b l hx hy e = absurd (omega (arith, l))
number-injective (x ∷ xs) [] a b l hx hy e = absurd (omega (arith, l))
number-injective (x ∷ xs) (y ∷ ys) a b l hx hy e =
    let more = number-injective xs ys (a * 256 + x) (b * 256 + y) (omega (arith, l)) hx.1 hy.1 e in
    let first : x ≡ y = omega (arith, more.0, hx.0, hy.0) in (
      omega (arith, more.0, hx.0, hy.0),
      ap (λ (d : ℕ). d ∷ xs) first
          ∙ ap (λ (ds : List ℕ). y ∷ ds) more.1,
    )

-- with zeros in front
abbrev padded : ℕ → List ℕ → List ℕ
padded zero ds = ds
padded (suc k) ds = 0 ∷ padded k ds

number-padded : (k : ℕ) (ds : List ℕ) → number 0 (padded k ds) ≡ number 0 ds
number-padded zero ds = refl
number-padded (suc k) ds = number-padded k ds

significant-padded : (k : ℕ) (ds : List ℕ) → significant (padded k ds) ≡ significant ds
significant-padded zero ds = refl
significant-padded (suc k) ds = significant-padded k ds

length-padded : (k : ℕ) (ds : List ℕ) → length (padded k ds) ≡ k + length ds
length-padded zero ds = omega arith
length-padded (suc k) ds = omega (arith, length-padded k ds)

bytes-padded : (k : ℕ) (ds : List ℕ) → IsBytes ds → IsBytes (padded k ds)
bytes-padded zero ds h = h
bytes-padded (suc k) ds h = (omega arith, bytes-padded k ds h)

significant-same : (a b : List ℕ) → IsBytes a → IsBytes b → number 0 a ≡ number 0 b
    → significant a ≡ significant b
significant-same a b ha hb e =
    let l : length (padded (length b) a) ≡ length (padded (length a) b) =
    omega (arith, length-padded (length b) a, length-padded (length a) b) in
    let same = number-injective (padded (length b) a) (padded (length a) b) 0 0 l
    (bytes-padded (length b) a ha) (bytes-padded (length a) b hb)
    (number-padded (length b) a ∙ e ∙ sym (number-padded (length a) b)) in
    sym (significant-padded (length b) a) ∙ ap significant same.1 ∙ significant-padded (length a) b

-- the contents of the INTEGER with the number of these digits
pub digits-unique : (c digits : List ℕ) → IsBytes c → IsBytes digits → IsInteger c (number 0 digits)
    → c ≡ integer_contents digits
digits-unique c digits hc hd h =
    let own = own-contents c (number 0 digits) h in
    own.1 ∙ ap not_negative (significant-same c digits hc hd own.0)

-- an INTEGER of 32 bits, from its own contents
own-number : (c : List ℕ) (n : ℕ) → IsBytes c → n < 2 ^ 32 → IsInteger c n → length c < 128
    → number_octets n ≡ 2 ∷ length c ∷ c
unfolding number_octets
own-number c n bytes lt h few =
    subst (λ x. value_octets INTEGER x ≡ 2 ∷ length c ∷ c) (contents-unique c n bytes lt h)
    (ap (λ (l : List ℕ). 2 ∷ l ++ c) (sym (short-unique (length c) few)))

-- an INTEGER of 32 bits, by the number of its octets: identifier, length and contents are the
-- digits of one number
pub one_octet : (n : ℕ) → n < 0x80 → number_octets n ≡ drop 5 (to_be_bytes w64 (0x020100 + n))
one_octet n h =
    let i : (0x020100 + n) / 65536 % 256 ≡ 2 = omega (arith, h) in
    let l : (0x020100 + n) / 256 % 256 ≡ 1 = omega (arith, h) in
    let d : (0x020100 + n) % 256 ≡ n % 256 = omega (arith, h) in
    rw (i, l, d) (own-number (drop 3 (to_be_bytes w32 n)) n (omega arith, tt) (omega (arith, h))
    (omega (arith, h), omega (arith, h)) (omega arith))

pub two_octets : (n : ℕ) → 0x80 ≤ n → n < 0x8000
    → number_octets n ≡ drop 4 (to_be_bytes w64 (0x02020000 + n))
two_octets n g h =
    let i : (0x02020000 + n) / 16777216 % 256 ≡ 2 = omega (arith, h) in
    let l : (0x02020000 + n) / 65536 % 256 ≡ 2 = omega (arith, h) in
    let c : (0x02020000 + n) / 256 % 256 ≡ n / 256 % 256 = omega (arith, h) in
    let d : (0x02020000 + n) % 256 ≡ n % 256 = omega (arith, h) in
    rw (i, l, c, d) (own-number (drop 2 (to_be_bytes w32 n)) n (omega arith, (omega arith, tt))
    (omega (arith, h)) (omega (arith, h), (λ z. omega (arith, g, z)), omega (arith, h))
    (omega arith))

pub three_octets : (n : ℕ) → 0x8000 ≤ n → n < 0x800000
    → number_octets n ≡ drop 3 (to_be_bytes w64 (0x0203000000 + n))
three_octets n g h =
    let i : (0x0203000000 + n) / 4294967296 % 256 ≡ 2 = omega (arith, h) in
    let l : (0x0203000000 + n) / 16777216 % 256 ≡ 3 = omega (arith, h) in
    let b : (0x0203000000 + n) / 65536 % 256 ≡ n / 65536 % 256 = omega (arith, h) in
    let c : (0x0203000000 + n) / 256 % 256 ≡ n / 256 % 256 = omega (arith, h) in
    let d : (0x0203000000 + n) % 256 ≡ n % 256 = omega (arith, h) in
    rw (i, l, b, c, d) (own-number (drop 1 (to_be_bytes w32 n)) n
    (omega arith, (omega arith, (omega arith, tt))) (omega (arith, h))
    (omega (arith, h), (λ z. omega (arith, g, z)), omega (arith, h)) (omega arith))

pub four_octets : (n : ℕ) → 0x800000 ≤ n → n < 0x80000000
    → number_octets n ≡ drop 2 (to_be_bytes w64 (0x020400000000 + n))
four_octets n g h =
    let i : (0x020400000000 + n) / 1099511627776 % 256 ≡ 2 = omega (arith, h) in
    let l : (0x020400000000 + n) / 4294967296 % 256 ≡ 4 = omega (arith, h) in
    let a : (0x020400000000 + n) / 16777216 % 256 ≡ n / 16777216 % 256 = omega (arith, h) in
    let b : (0x020400000000 + n) / 65536 % 256 ≡ n / 65536 % 256 = omega (arith, h) in
    let c : (0x020400000000 + n) / 256 % 256 ≡ n / 256 % 256 = omega (arith, h) in
    let d : (0x020400000000 + n) % 256 ≡ n % 256 = omega (arith, h) in
    rw (i, l, a, b, c, d)
    (own-number (to_be_bytes w32 n) n
    (omega arith, (omega arith, (omega arith, (omega arith, tt)))) (omega (arith, h))
    (omega (arith, h), (λ z. omega (arith, g, z)), omega (arith, h)) (omega arith))

pub five_octets : (n : ℕ) → 0x80000000 ≤ n → n < 2 ^ 32
    → number_octets n ≡ drop 1 (to_be_bytes w64 (0x02050000000000 + n))
five_octets n g h =
    let i : (0x02050000000000 + n) / 281474976710656 % 256 ≡ 2 = omega (arith, h) in
    let l : (0x02050000000000 + n) / 1099511627776 % 256 ≡ 5 = omega (arith, h) in
    let z : (0x02050000000000 + n) / 4294967296 % 256 ≡ 0 = omega (arith, h) in
    let a : (0x02050000000000 + n) / 16777216 % 256 ≡ n / 16777216 % 256 = omega (arith, h) in
    let b : (0x02050000000000 + n) / 65536 % 256 ≡ n / 65536 % 256 = omega (arith, h) in
    let c : (0x02050000000000 + n) / 256 % 256 ≡ n / 256 % 256 = omega (arith, h) in
    let d : (0x02050000000000 + n) % 256 ≡ n % 256 = omega (arith, h) in
    rw (i, l, z, a, b, c, d)
    (own-number (0 ∷ to_be_bytes w32 n) n
    (omega arith, (omega arith, (omega arith, (omega arith, (omega arith, tt))))) h
    (omega arith, (λ _. omega (arith, g)), omega (arith, h)) (omega arith))

pub length-number_octets : (n : ℕ) → length (number_octets n) ≤ 11
unfolding number_octets
length-number_octets n =
    omega (
      arith,
      length_value_octets_le 2 (integer_contents (to_be_bytes w32 n)),
      length-integer_contents (to_be_bytes w32 n),
    )
