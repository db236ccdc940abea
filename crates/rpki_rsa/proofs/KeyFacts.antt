-- A key and its modulus, octet by octet.
use Rattle.std.proofs.Common.{◌≡◌, ◌≢◌, ℕ, suc, ◌+◌, ◌-◌, ◌*◌, ◌/◌, ◌%◌, ◌^◌, ◌<◌, ◌≤◌, List}
use Rattle.std.proofs.Common.{[], ◌∷◌, ◌++◌, length, take, drop, get_or, refl, sym, ap, ◌∙◌, arith}
use Rattle.std.proofs.Common.{length-append, subst, inl, inr, Bool, true, false, not}
use Rattle.std.specs.Prelude.{nat_eq, ◌⊎◌}
use Rattle.std.specs.Str.{bytes_eq}
use Rattle.std.proofs.lemmas.Bool.{cases_lt, lt-ltb, le-ltb, eqb-true}
use Rattle.std.proofs.lemmas.Bool.{eqb-false, ne_eqb}
use Rattle.std.proofs.lemmas.Slice.Eq.{bytes_eq-Decides}
use Rattle.std.proofs.lemmas.List.{take-append-drop}
use Rattle.std.proofs.Math.Nat.{pow-le-pow_right, pow-suc}
use Rattle.std.proofs.Math.Seq.{drop-append_seam, take-append_seam}
use Rattle.rpki_der.specs.Grammar.{IsBytes, IsInteger}
use Rattle.rpki_der.specs.Numbers.{number}
use Rattle.rpki_der.specs.Tags.{SEQUENCE, INTEGER}
use Rattle.rpki_der.specs.Write.Written.{length_octets, value_octets, number_octets}
use Rattle.rpki_der.specs.Write.Written.{significant, not_negative, integer_contents}
use Rattle.rpki_der.proofs.Reading.Digits.{number-head, number-below, at_least}
use Rattle.rpki_der.proofs.Writing.Lengths.{test}
use Rattle.rpki_der.proofs.Writing.Numbers.{integer-is, digits-unique}
use Rattle.rpki_der.proofs.Writing.Numbers.{length-integer_contents}
use Rattle.rpki_basics.specs.Serial.{digits}
use Rattle.rpki_basics.proofs.Serials.Written.{length-digits, number-digits, bytes-digits}
use Rattle.rpki_rsa.specs.Signature.{key_with, IsModulus, IsRsaKey, HasOctets}
use Rattle.rpki_rsa.specs.Signature.{contents_in, modulus_in}
use Rattle.rpki_rsa.specs.KeyParts.{key_front, key_end, HasContents, HasDigits, IsModulusOf}

-- ---- the octets round the contents

long-length : (n : ℕ) → 256 ≤ n → n < 65536
    → length_octets n ≡ 0x82 ∷ n / 256 ∷ n % 256 ∷ []
unfolding length_octets
long-length n h l =
    rw (le-ltb n 0x80 (omega arith), le-ltb n 0x100 h, lt-ltb n 0x10000 l)
    (ap (λ (d : ℕ). 0x82 ∷ d ∷ n % 256 ∷ []) (omega arith))

exponent-octets : number_octets 65537 ≡ key_end
unfolding number_octets length_octets
exponent-octets = refl

modulus-octets : (c : List ℕ) → 256 ≤ length c → length c ≤ 513
    → value_octets INTEGER c ≡ 0x02 ∷ 0x82 ∷ length c / 256 ∷ length c % 256 ∷ c
modulus-octets c h l =
    ap (λ (len : List ℕ). 0x02 ∷ (len ++ c)) (long-length (length c) h (omega arith))

inner-octets : (c : List ℕ) → 256 ≤ length c → length c ≤ 513
    → value_octets INTEGER c ++ number_octets 65537
    ≡ 0x02 ∷ 0x82 ∷ length c / 256 ∷ length c % 256 ∷ (c ++ key_end)
inner-octets c h l =
    ap (λ (e : List ℕ). value_octets INTEGER c ++ e) exponent-octets
    ∙ ap (λ (m : List ℕ). m ++ key_end) (modulus-octets c h l)

pub key-parts : (c : List ℕ) → 256 ≤ length c → length c ≤ 513
    → key_with c ≡ key_front (length c) ++ (c ++ key_end)
unfolding key_with
key-parts c h l =
    let inner : List ℕ = 0x02 ∷ 0x82 ∷ length c / 256 ∷ length c % 256 ∷ (c ++ key_end) in
    let len : length inner ≡ length c + 9 = omega (arith, length-append c key_end) in
    ap (value_octets SEQUENCE) (inner-octets c h l)
    ∙ ap (λ (o : List ℕ). 0x30 ∷ (o ++ inner))
    (ap length_octets len ∙ long-length (length c + 9) (omega arith) (omega arith))

parts-of : (key c : List ℕ) → HasContents key c
    → key ≡ key_front (length c) ++ (c ++ key_end)
parts-of key c h = h.whole ∙ key-parts c h.least h.most

pub key-length : (key c : List ℕ) → HasContents key c → length key ≡ length c + 13
key-length key c h =
    omega (arith, ap length (parts-of key c h), length-append c key_end)

-- what a key is cut into, with this number of octets for the contents
pub record Cut (key c : List ℕ) (k : ℕ) : Type 0 where
  pub front : take 8 key ≡ key_front k
  pub contents : take k (drop 8 key) ≡ c
  pub end : drop k (drop 8 key) ≡ key_end

pub key-cut : (key c : List ℕ) (k : ℕ) → HasContents key c → length key - 13 ≡ k → Cut key c k
key-cut key c k h e =
    let len : length c ≡ k = omega (arith, key-length key c h) in
    let parts = parts-of key c h in
    let rest : drop 8 key ≡ c ++ key_end =
    ap (drop 8) parts ∙ drop-append_seam (key_front (length c)) (c ++ key_end) in
    record {
      front = ap (take 8) parts ∙ take-append_seam (key_front (length c)) (c ++ key_end)
          ∙ ap key_front len;
      contents = ap (take k) rest ∙ ap (λ (z : ℕ). take z (c ++ key_end)) (sym len)
          ∙ take-append_seam c key_end;
      end = ap (drop k) rest ∙ ap (λ (z : ℕ). drop z (c ++ key_end)) (sym len)
          ∙ drop-append_seam c key_end;
    }

pub contents-are : (key c : List ℕ) → HasContents key c → contents_in key ≡ c
contents-are key c h = (key-cut key c (length key - 13) h refl).contents

pub one-contents : (key c d : List ℕ) → HasContents key c → HasContents key d → c ≡ d
one-contents key c d h i = sym (contents-are key c h) ∙ contents-are key d i

pub key-whole : (key : List ℕ) (k : ℕ) → take 8 key ≡ key_front k
    → drop k (drop 8 key) ≡ key_end → length (take k (drop 8 key)) ≡ k → 256 ≤ k → k ≤ 513
    → HasContents key (take k (drop 8 key))
key-whole key k f e len low high =
    let c = take k (drop 8 key) in
    let tail : drop 8 key ≡ c ++ key_end =
    sym (take-append-drop k (drop 8 key)) ∙ ap (λ z. c ++ z) e in
    let least : 256 ≤ length c = omega arith in
    let most : length c ≤ 513 = omega arith in
    record {
      whole = sym (take-append-drop 8 key) ∙ ap (λ z. z ++ drop 8 key) (f ∙ ap key_front (sym len))
          ∙ ap (λ z. key_front (length c) ++ z) tail
          ∙ sym (key-parts c least most);
      least = least;
      most = most;
    }

not-false : (b : Bool) → false ≡ not b → b ≡ true
not-false true h = refl
not-false false h = cc

not-true : (b : Bool) → true ≡ not b → b ≡ true → ⊥
not-true true h e = cc
not-true false h e = cc

pub agree : (xs ys : List ℕ) → false ≡ not (bytes_eq xs ys) → xs ≡ ys
agree xs ys h = (bytes_eq-Decides xs ys).0 (not-false _ h)

pub differ : (xs ys : List ℕ) → true ≡ not (bytes_eq xs ys) → xs ≡ ys → ⊥
differ xs ys h e = not-true _ h ((bytes_eq-Decides xs ys).1 e)

-- ---- the digits in the contents

plain : (d : ℕ) (ds : List ℕ) → d < 128 → not_negative (d ∷ ds) ≡ d ∷ ds
plain d ds h = rw (lt-ltb d 128 h) refl

put : (d : ℕ) (ds : List ℕ) → 128 ≤ d → not_negative (d ∷ ds) ≡ 0 ∷ d ∷ ds
put d ds h = rw (le-ltb d 128 h) refl

pub digits-head : (c d : List ℕ) → HasDigits c d
    → (get_or c 0 0 < 128) × (get_or c 0 0 ≡ 0 → 128 ≤ get_or c 1 0)
digits-head c [] h = absurd (omega (arith, h.head))
digits-head c (x ∷ xs) h =
    elim (cases_lt x 128) [
      | inl lt ↦
          let w : c ≡ x ∷ xs = h.whole ∙ plain x xs lt in
          let first : get_or c 0 0 ≡ x = ap (λ (z : List ℕ). get_or z 0 0) w in
          (omega arith, λ z. absurd (omega (arith, h.head)))
      | inr ge ↦
          let w : c ≡ 0 ∷ x ∷ xs = h.whole ∙ put x xs ge in
          let first : get_or c 0 0 ≡ 0 = ap (λ (z : List ℕ). get_or z 0 0) w in
          let second : get_or c 1 0 ≡ x = ap (λ (z : List ℕ). get_or z 1 0) w in
          (omega arith, λ _. omega arith)
    ]

pub digits-plain : (c : List ℕ) → 0 < get_or c 0 0 → get_or c 0 0 < 128 → HasDigits c c
digits-plain [] some few = absurd (omega (arith, some))
digits-plain (x ∷ xs) some few = record { whole = sym (plain x xs few); head = some }

pub digits-put : (c : List ℕ) → 2 ≤ length c → get_or c 0 0 ≡ 0 → 128 ≤ get_or c 1 0
    → HasDigits c (drop 1 c)
digits-put [] two first second = absurd (omega (arith, two))
digits-put (x ∷ []) two first second = absurd (omega (arith, two))
digits-put (x ∷ y ∷ rest) two first second = record {
  whole = ap (λ (z : ℕ). z ∷ y ∷ rest) first ∙ sym (put y rest second);
  head = omega (arith, second);
}

-- ---- numbers of digits

number-not_negative : (d : List ℕ) → number 0 (not_negative d) ≡ number 0 d
number-not_negative [] = refl
number-not_negative (x ∷ xs) =
    elim (cases_lt x 128) [
      | inl lt ↦ ap (number 0) (plain x xs lt)
      | inr ge ↦ ap (number 0) (put x xs ge)
    ]

bytes-not_negative : (d : List ℕ) → IsBytes d → IsBytes (not_negative d)
bytes-not_negative [] h = (omega arith, tt)
bytes-not_negative (x ∷ xs) h =
    elim (cases_lt x 128) [
      | inl lt ↦ subst IsBytes (sym (plain x xs lt)) h
      | inr ge ↦
          let whole : IsBytes (0 ∷ x ∷ xs) = (omega arith, h) in
          subst IsBytes (sym (put x xs ge)) whole
    ]

length-not_negative : (d : List ℕ) → length d ≤ length (not_negative d)
length-not_negative [] = omega arith
length-not_negative (x ∷ xs) =
    elim (cases_lt x 128) [
      | inl lt ↦ omega (arith, ap length (plain x xs lt))
      | inr ge ↦ omega (arith, ap length (put x xs ge))
    ]

significant-own : (d : List ℕ) → 0 < get_or d 0 0 → significant d ≡ d
significant-own [] h = refl
significant-own (x ∷ xs) h = rw (ne_eqb x 0 (λ e. absurd (omega (arith, e, h)))) refl

-- what is left of digits without the zeros in front
record Shorter (ds : List ℕ) : Type 0 where
  same : number 0 (significant ds) ≡ number 0 ds
  bytes : IsBytes (significant ds)
  head : (number 0 ds ≡ 0) ⊎ (0 < get_or (significant ds) 0 0)

shorter : (ds : List ℕ) → IsBytes ds → Shorter ds
shorter [] h = record { same = refl; bytes = tt; head = inl refl }
shorter (d ∷ ds) h =
    elim (test (nat_eq d 0)) [
      | inl e ↦
          let zero-is : d ≡ 0 = eqb-true d 0 e in
          let rest : Shorter ds = shorter ds h.1 in
          let same : significant (d ∷ ds) ≡ significant ds = rw e refl in
          let at : number 0 ds ≡ number 0 (d ∷ ds) =
          ap (λ (n : ℕ). number n ds) (omega arith) in
          record {
            same = ap (number 0) same ∙ rest.same ∙ at;
            bytes = subst IsBytes (sym same) rest.bytes;
            head = elim rest.head [
              | inl z ↦ inl (sym at ∙ z)
              | inr s ↦ inr (subst (λ (x : List ℕ). 0 < get_or x 0 0) (sym same) s)
            ];
          }
      | inr e ↦
          let ne : d ≢ 0 = eqb-false d 0 e in
          let same : significant (d ∷ ds) ≡ d ∷ ds = rw e refl in
          let some : 0 < get_or (d ∷ ds) 0 0 = omega (arith, ne) in
          record {
            same = ap (number 0) same;
            bytes = subst IsBytes (sym same) h;
            head = inr (subst (λ (x : List ℕ). 0 < get_or x 0 0) (sym same) some);
          }
    ]

-- ---- how many octets a number has

-- a number between two multiples of a power
record Between (x : ℕ) (xs : List ℕ) : Type 0 where
  least : x * 256 ^ length xs ≤ number 0 (x ∷ xs)
  most : number 0 (x ∷ xs) < (x + 1) * 256 ^ length xs

between : (x : ℕ) (xs : List ℕ) → IsBytes (x ∷ xs) → Between x xs
between x xs h =
    let e = number-head x xs in
    let b : number 0 xs < 256 ^ length xs = number-below xs h.1 in
    record { least = omega (arith, e); most = omega (arith, e, b) }

power-least : (d : List ℕ) → IsBytes d → 0 < get_or d 0 0 → 256 ^ (length d - 1) ≤ number 0 d
power-least [] h some = absurd (omega (arith, some))
power-least (x ∷ xs) h some =
    let b = between x xs h in
    let e : length (x ∷ xs) - 1 ≡ length xs = omega arith in
    rw e (omega (arith, b.least, at_least x (256 ^ length xs) some))

pub has-octets : (d : List ℕ) → IsBytes d → 0 < get_or d 0 0 → HasOctets (number 0 d) (length d)
has-octets d h some = record { least = power-least d h some; most = number-below d h }

power-below : (j k : ℕ) → 256 ^ j < 256 ^ k → j < k
power-below j k h =
    elim (cases_lt j k) [
      | inl l ↦ l
      | inr g ↦ absurd
          (omega (arith, h, pow-le-pow_right {n = 256} (omega arith) {i = k} {j = j} g))
    ]

pub same-octets : (n j k : ℕ) → HasOctets n j → HasOctets n k → j ≡ k
same-octets n j k h i =
    omega (
      arith,
      power-below (j - 1) j (omega (arith, h.least, h.most)),
      power-below (j - 1) k (omega (arith, h.least, i.most)),
      power-below (k - 1) k (omega (arith, i.least, i.most)),
      power-below (k - 1) j (omega (arith, i.least, h.most)),
    )

-- ---- a modulus

bits-2048 : 2 ^ 2047 ≡ 128 * 256 ^ 255
bits-2048 = refl

pub bits-4096 : 2 ^ 4096 ≡ 256 ^ 512
bits-4096 = refl

pub too-short : (d : List ℕ) → IsBytes d → length d < 256 → number 0 d < 2 ^ 2047
too-short d h l =
    let p : 256 ^ length d ≤ 256 ^ 255 =
    pow-le-pow_right {n = 256} (omega arith) {i = length d} {j = 255} (omega arith) in
    rw bits-2048 (omega (arith, number-below d h, p))

pub too-long : (d : List ℕ) → IsBytes d → 0 < get_or d 0 0 → 512 < length d → 2 ^ 4096 ≤ number 0 d
too-long d h some l =
    let p : 256 ^ 512 ≤ 256 ^ (length d - 1) =
    pow-le-pow_right {n = 256} (omega arith) {i = 512} {j = length d - 1} (omega arith) in
    rw bits-4096 (omega (arith, power-least d h some, p))

pub too-low : (d : List ℕ) → IsBytes d → length d ≡ 256 → get_or d 0 0 < 128
    → number 0 d < 2 ^ 2047
too-low [] h l few = absurd (omega (arith, l))
too-low (x ∷ xs) h l few =
    let b = between x xs h in
    let e : length xs ≡ 255 = omega (arith, l) in
    let m : number 0 (x ∷ xs) < (x + 1) * 256 ^ 255 = rw e at b.most in
    let top : x + 1 ≤ 128 = omega (arith, few) in
    rw bits-2048 (grind (arith, m, top))

pub large : (d : List ℕ) → IsBytes d → 0 < get_or d 0 0 → 256 ≤ length d
    → (length d ≡ 256 → 128 ≤ get_or d 0 0) → 2 ^ 2047 ≤ number 0 d
large [] h some l first = absurd (omega (arith, some))
large (x ∷ xs) h some l first =
    let b = between x xs h in
    elim (cases_lt 255 (length xs)) [
      | inl more ↦
          let p : 256 ^ 256 ≤ 256 ^ length xs =
          pow-le-pow_right {n = 256} (omega arith) {i = 256} {j = length xs} (omega arith) in
          let q : 128 * 256 ^ 255 ≤ 256 ^ 256 = omega (arith, pow-suc 256 255) in
          rw bits-2048 (omega (arith, b.least, p, q, at_least x (256 ^ length xs) some))
      | inr least ↦
          let e : length xs ≡ 255 = omega (arith, l) in
          let top : 128 ≤ x = first (omega arith) in
          let m : x * 256 ^ 255 ≤ number 0 (x ∷ xs) = rw e at b.least in
          rw bits-2048 (grind (arith, m, top))
    ]

pub small : (d : List ℕ) → IsBytes d → length d ≤ 512 → number 0 d < 2 ^ 4096
small d h l =
    let p : 256 ^ length d ≤ 256 ^ 512 =
    pow-le-pow_right {n = 256} (omega arith) {i = length d} {j = 512} l in
    rw bits-4096 (omega (arith, number-below d h, p))

pub last-parity : (a : ℕ) (d : List ℕ) → 0 < length d
    → number a d % 2 ≡ get_or d (length d - 1) 0 % 2
last-parity a [] h = absurd (omega (arith, h))
last-parity a (x ∷ []) h = omega arith
last-parity a (x ∷ y ∷ ys) h =
    let e : length (x ∷ y ∷ ys) - 1 ≡ suc (length (y ∷ ys) - 1) = omega arith in
    rw e (last-parity (a * 256 + x) (y ∷ ys) (omega arith))

-- ---- the modulus of a key

-- digits of a number that is not zero are those that its INTEGER is written with
integer-digits : (d : List ℕ) → IsBytes d → 0 < get_or d 0 0 → number 0 d < 2 ^ 4096
    → not_negative d ≡ integer_contents (digits 512 (number 0 d))
integer-digits d h some few =
    let n = number 0 d in
    let fits : number 0 d < 256 ^ 512 = rw bits-4096 at few in
    let own : integer_contents d ≡ not_negative d = ap not_negative (significant-own d some) in
    let is : IsInteger (not_negative d) (number 0 d) =
    subst (λ (c : List ℕ). IsInteger c (number 0 d)) own (integer-is d) in
    digits-unique (not_negative d) (digits 512 (number 0 d)) (bytes-not_negative d h)
    (bytes-digits 512 (number 0 d) fits)
    (subst (λ (m : ℕ). IsInteger (not_negative d) m) (sym (number-digits 512 (number 0 d) fits)) is)

pub is-key : (key c d : List ℕ) → HasContents key c → HasDigits c d → IsBytes d
    → IsModulus (number 0 d) → IsRsaKey key (number 0 d)
is-key key c d whole h bytes m = record {
  octets = whole.whole ∙ ap key_with (h.whole ∙ integer-digits d bytes h.head m.most);
  modulus = m;
}

-- what a key with this modulus is made of
pub record Made (key : List ℕ) (n : ℕ) : Type 0 where
  pub d : List ℕ
  pub contents : HasContents key (not_negative d)
  pub head : 0 < get_or d 0 0
  pub bytes : IsBytes d
  pub same : number 0 d ≡ n

pub made : (key : List ℕ) (n : ℕ) → IsRsaKey key n → Made key n
made key n h =
    let ds : List ℕ = digits 512 n in
    let fits : n < 256 ^ 512 = rw bits-4096 at h.modulus.most in
    let less = shorter (digits 512 n) (bytes-digits 512 n fits) in
    let d : List ℕ = significant (digits 512 n) in
    let same : number 0 (significant (digits 512 n)) ≡ n = less.same ∙ number-digits 512 n fits in
    let long : 256 ≤ length (significant (digits 512 n)) =
    elim (cases_lt (length (significant (digits 512 n))) 256) [
      | inl l ↦ absurd (omega (arith, too-short d less.bytes l, same, h.modulus.least))
      | inr g ↦ g
    ] in
    let whole : key ≡ key_with (not_negative (significant (digits 512 n))) = h.octets in
    record {
      d = significant (digits 512 n);
      contents = record {
        whole = whole;
        least = omega (arith, long, length-not_negative (significant (digits 512 n)));
        most = omega (arith, length-integer_contents (digits 512 n), length-digits 512 n);
      };
      head = elim less.head [
        | inl z ↦ absurd (omega (arith, z, number-digits 512 n fits, h.modulus.least))
        | inr s ↦ s
      ];
      bytes = less.bytes;
      same = same;
    }

-- the number of the contents is the one of the digits
pub number-of : (c d : List ℕ) → HasDigits c d → number 0 c ≡ number 0 d
number-of c d h = ap (number 0) h.whole ∙ number-not_negative d

pub modulus-is : (key : List ℕ) (n : ℕ) → IsRsaKey key n → modulus_in key ≡ n
modulus-is key n h =
    let m = made key n h in
    ap (number 0) (contents-are key (not_negative m.d) m.contents) ∙ number-not_negative m.d
    ∙ m.same

pub one-modulus : (key : List ℕ) (m n : ℕ) → IsRsaKey key m → IsRsaKey key n → m ≡ n
one-modulus key m n h i = sym (modulus-is key m h) ∙ modulus-is key n i

pub made-of : (key c d : List ℕ) (n : ℕ) → HasContents key c → HasDigits c d → IsRsaKey key n
    → number 0 d ≡ n
made-of key c d n whole h k =
    sym (number-of c d h) ∙ ap (number 0) (sym (contents-are key c whole)) ∙ modulus-is key n k

pub modulus-octets-least : (d : List ℕ) → IsBytes d → IsModulus (number 0 d) → 256 ≤ length d
modulus-octets-least d h m =
    elim (cases_lt (length d) 256) [
      | inl l ↦ absurd (omega (arith, too-short d h l, m.least))
      | inr g ↦ g
    ]

pub modulus-octets-most : (d : List ℕ) → IsBytes d → 0 < get_or d 0 0 → IsModulus (number 0 d)
    → length d ≤ 512
modulus-octets-most d h some m =
    elim (cases_lt 512 (length d)) [
      | inl l ↦ absurd (omega (arith, too-long d h some l, m.most))
      | inr g ↦ g
    ]

pub is-modulus-of : (key c d : List ℕ) → HasContents key c → HasDigits c d → IsBytes d
    → IsModulus (number 0 d) → IsModulusOf key d
is-modulus-of key c d whole h bytes m = record {
  is_key = is-key key c d whole h bytes m;
  long = has-octets d bytes h.head;
  least = modulus-octets-least d bytes m;
  most = modulus-octets-most d bytes h.head m;
}
