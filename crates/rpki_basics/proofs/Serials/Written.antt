-- What is written of a serial number is in its form.
use Rattle.rpki_der.specs.Tags.{INTEGER}
use Rattle.std.proofs.Common.{◌≡◌, ℕ, zero, suc, ◌+◌, ◌*◌, ◌/◌, ◌%◌, ◌^◌, ◌<◌, ◌≤◌, List, ◌++◌}
use Rattle.std.proofs.Common.{length, Some, refl, sym, ap, subst, ◌∙◌, arith}
use Rattle.std.proofs.Math.Nat.{pow-suc, mod-lt, div-lt_iff_lt-mul, mul_comm}
use Rattle.std.proofs.lemmas.Nat.{div-add-mod'}
use Rattle.rpki_der.specs.declared.mode.Mode.{Mode}
use Rattle.rpki_der.specs.declared.mode.Mode.TheVariants.{Der}
use Rattle.rpki_der.specs.Grammar.{IsBytes, IsInteger}
use Rattle.rpki_der.specs.Numbers.{number}
use Rattle.rpki_der.specs.Read.Parse.{unsigned_of}
use Rattle.rpki_der.specs.Write.Written.{integer_contents, significant}
use Rattle.rpki_der.proofs.Reading.Scan.{tag-sound}
use Rattle.rpki_der.proofs.Writing.Numbers.{length-integer_contents, length-significant, integer-is}
use Rattle.rpki_der.proofs.Writing.Numbers.{unsigned-written}
use Rattle.rpki_der.proofs.Writing.Lengths.{value-written}
use Rattle.rpki_der.proofs.Writing.Values.{integer-unique}
use Rattle.rpki_der.proofs.Writing.Leaves.{primitive-read}
use Rattle.rpki_der.specs.Read.Parse.{u160_at}
use Rattle.rpki_der.proofs.Reading.Digits.{number-head, number-below}
use Rattle.rpki_basics.specs.Serial.{digits, IsDigits, SerialForm, serial_octets}
use Rattle.rpki_basics.specs.Digits.{digits_again}

-- ---- the digits of a number

pow-some : (k : ℕ) → zero < 256 ^ k
pow-some zero = omega arith
pow-some (suc k) = let h : zero < 256 ^ k = pow-some k in rw (pow-suc 256 k) (omega (arith, h))

pub length-digits : (k n : ℕ) → length (digits k n) ≡ k
unfolding digits
length-digits zero n = refl
length-digits (suc k) n =
    let i : length (digits k (n % 256 ^ k)) ≡ k = length-digits k (n % 256 ^ k) in omega arith

pub number-digits : (k n : ℕ) → n < 256 ^ k → number 0 (digits k n) ≡ n
unfolding digits
number-digits zero n h = omega (arith, h)
number-digits (suc k) n h =
    let p : zero < 256 ^ k = pow-some k in
    let r : n % 256 ^ k < 256 ^ k = mod-lt n p in
    let i : number 0 (digits k (n % 256 ^ k)) ≡ n % 256 ^ k = number-digits k (n % 256 ^ k) r in
    let l : length (digits k (n % 256 ^ k)) ≡ k = length-digits k (n % 256 ^ k) in
    number-head (n / 256 ^ k) (digits k (n % 256 ^ k))
    ∙ ap (λ (m : ℕ). n / 256 ^ k * 256 ^ m + number 0 (digits k (n % 256 ^ k))) l
    ∙ ap (λ (m : ℕ). n / 256 ^ k * 256 ^ k + m) i ∙ div-add-mod' n (256 ^ k)

pub bytes-digits : (k n : ℕ) → n < 256 ^ k → IsBytes (digits k n)
unfolding digits
bytes-digits zero n h = tt
bytes-digits (suc k) n h =
    let p : zero < 256 ^ k = pow-some k in
    let b : n < 256 * 256 ^ k = rw (← mul_comm (256 ^ k) 256) (rw pow-suc at h) in
    ((div-lt_iff_lt-mul p).1 b, bytes-digits k (n % 256 ^ k) (mod-lt n p))

pub digits-all : (n : ℕ) → n < 2 ^ 160 → IsDigits (digits 20 n) × (number 0 (digits 20 n) ≡ n)
digits-all n h =
    let l : n < 256 ^ 20 = omega (arith, h) in
    ((length-digits 20 n, bytes-digits 20 n l), number-digits 20 n l)

-- ---- what is written

pub digits-written : (ds : List ℕ) → IsDigits ds
    → SerialForm Der (serial_octets (number 0 ds)) (number 0 ds)
digits-written ds h =
    let c : List ℕ = integer_contents ds in
    let small : length (integer_contents ds) < 2 ^ 32 =
    omega (arith, h.0, length-integer_contents ds) in
    let below : number 0 ds < 2 ^ 160 =
    let b : number 0 ds < 256 ^ length ds = number-below ds h.1 in
    let e : 256 ^ length ds ≡ 256 ^ 20 = ap (λ (k : ℕ). 256 ^ k) h.0 in omega (arith, b, e) in
    rw (digits_again ds h)
    (c, value-written INTEGER c (tag-sound INTEGER refl) small, (integer-is ds, below))

pub serial-written : (n : ℕ) → n < 2 ^ 160 → SerialForm Der (serial_octets n) n
serial-written n h =
    let d = digits-all n h in
    subst (λ m. SerialForm Der (serial_octets m) m) d.1 (digits-written (digits 20 n) d.0)

pub serial-unique : (o : List ℕ) (n : ℕ) → IsBytes o → SerialForm Der o n → o ≡ serial_octets n
serial-unique o n bytes h =
    let d = digits-all n h.2.1 in
    integer-unique o (digits 20 n) bytes d.0.1
    (h.0, h.1, subst (IsInteger h.0) (sym d.1) h.2.0)

pub serial-read : (mode : Mode) (n : ℕ) (rest : List ℕ) → n < 2 ^ 160
    → u160_at mode (serial_octets n ++ rest) ≡ Some (n, rest)
serial-read mode n rest h =
    let d = digits-all n h in
    let ds : List ℕ = digits 20 n in
    let small : length (integer_contents (digits 20 n)) < 2 ^ 32 =
    omega (arith, d.0.0, length-integer_contents (digits 20 n)) in
    let few : length (significant (digits 20 n)) ≤ 20 =
    omega (arith, d.0.0, length-significant (digits 20 n)) in
    let o : unsigned_of 20 (integer_contents (digits 20 n)) ≡ Some (number 0 (digits 20 n)) =
    unsigned-written 20 (digits 20 n) few (omega arith) in
    subst (λ (m : ℕ). u160_at mode (serial_octets n ++ rest) ≡ Some (m, rest)) d.1
    (primitive-read INTEGER (unsigned_of 20) mode (integer_contents ds) rest (number 0 ds)
    (tag-sound INTEGER refl) small o)
