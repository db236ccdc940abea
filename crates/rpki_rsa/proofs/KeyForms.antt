-- A key is what its ASN.1 says, in DER.
use Rattle.std.proofs.Common.{◌≡◌, ℕ, ◌<◌, ◌^◌, List, [], ◌++◌, length, refl, sym, ap, ◌∙◌}
use Rattle.std.proofs.Common.{arith, subst, length-append}
use Rattle.std.proofs.lemmas.List.{append-nil}
use Rattle.rpki_der.specs.declared.mode.Mode.TheVariants.{Der}
use Rattle.rpki_der.specs.Grammar.{Integer, IsInteger, IsBytes}
use Rattle.rpki_der.specs.Numbers.{number}
use Rattle.rpki_der.specs.Tags.{SEQUENCE, INTEGER}
use Rattle.rpki_der.specs.Write.Written.{value_octets, number_octets, integer_contents}
use Rattle.rpki_der.specs.Write.Written.{length_value_octets_le}
use Rattle.rpki_der.proofs.Reading.Exact.{IsBytes-left, IsBytes-right, IsBytes-contents}
use Rattle.rpki_der.proofs.Reading.Scan.{tag-sound}
use Rattle.rpki_der.proofs.Writing.Lengths.{value-written, value-unique}
use Rattle.rpki_der.proofs.Writing.Numbers.{integer-is, length-integer_contents}
use Rattle.rpki_der.proofs.Writing.Numbers.{length-number_octets}
use Rattle.rpki_der.proofs.Writing.Values.{number-written, number-unique, integer-unique}
use Rattle.rpki_basics.specs.Serial.{digits}
use Rattle.rpki_basics.proofs.Serials.Written.{length-digits, number-digits}
use Rattle.rpki_rsa.specs.Signature.{key_with, rsa_key_octets, IsModulus, IsRsaKey, RsaKeyForm}
use Rattle.rpki_basics.proofs.Serials.Written.{bytes-digits}
use Rattle.rpki_rsa.proofs.KeyFacts.{bits-4096}

fits : (n : ℕ) → IsModulus n → n < 256 ^ 512
fits n m = rw bits-4096 at m.most

short : (n : ℕ) → length (integer_contents (digits 512 n)) < 1000
short n = omega (arith, length-integer_contents (digits 512 n), length-digits 512 n)

modulus-written : (n : ℕ) → IsModulus n
    → Integer Der (value_octets INTEGER (integer_contents (digits 512 n))) n
modulus-written n m =
    let c : List ℕ = integer_contents (digits 512 n) in
    let small : length (integer_contents (digits 512 n)) < 2 ^ 32 = omega (arith, short n) in (
      c,
      value-written INTEGER c (tag-sound INTEGER refl) small,
      subst (λ (k : ℕ). IsInteger (integer_contents (digits 512 n)) k)
          (number-digits 512 n (fits n m)) (integer-is (digits 512 n)),
    )

key-octets : (n : ℕ) → IsModulus n → RsaKeyForm Der (rsa_key_octets n) n
unfolding key_with
key-octets n m =
    let a : List ℕ = value_octets INTEGER (integer_contents (digits 512 n)) in
    let b : List ℕ = number_octets 65537 in
    let long : length
    (value_octets INTEGER (integer_contents (digits 512 n)) ++ number_octets 65537) < 2 ^ 32 =
    omega (
      arith,
      length-append (value_octets INTEGER (integer_contents (digits 512 n))) (number_octets 65537),
      length_value_octets_le INTEGER (integer_contents (digits 512 n)),
      length-number_octets 65537,
      short n,
    ) in (
      a ++ b,
      value-written SEQUENCE (a ++ b) (tag-sound SEQUENCE refl) long,
      (
        a,
        b,
        refl,
        modulus-written n m,
        (b, [], sym (append-nil b), number-written 65537 (omega arith), refl),
      ),
    )

pub key-form : (key : List ℕ) (n : ℕ) → IsRsaKey key n → RsaKeyForm Der key n
key-form key n h =
    subst (λ (o : List ℕ). RsaKeyForm Der o n) (sym h.octets) (key-octets n h.modulus)

pub key-only : (key : List ℕ) (n : ℕ) → IsBytes key → IsModulus n → RsaKeyForm Der key n
    → IsRsaKey key n
unfolding key_with
key-only key n bytes m h =
    let p = h.2 in
    let r = p.4 in
    let c : IsBytes h.0 =
    IsBytes-contents Der key key [] SEQUENCE h.0 (sym (append-nil key)) h.1 bytes in
    let f : IsBytes p.0 = IsBytes-left p.0 p.1 (subst IsBytes p.2 c) in
    let s : IsBytes p.1 = IsBytes-right p.0 p.1 (subst IsBytes p.2 c) in
    let e : IsBytes r.0 = IsBytes-left r.0 r.1 (subst IsBytes r.2 s) in
    let d = digits 512 n in
    let number-is : number 0 (digits 512 n) ≡ n = number-digits 512 n (fits n m) in
    let first : p.0 ≡ value_octets INTEGER (integer_contents (digits 512 n)) =
    integer-unique p.0 (digits 512 n) f (bytes-digits 512 n (fits n m))
    (subst (λ (k : ℕ). Integer Der p.0 k) (sym number-is) p.3) in
    let second : p.1 ≡ number_octets 65537 =
    r.2 ∙ ap (λ (t : List ℕ). r.0 ++ t) r.4 ∙ append-nil r.0
    ∙ number-unique r.0 65537 e (omega arith) r.3 in
    record {
      octets = value-unique key SEQUENCE h.0 bytes h.1
          ∙ ap (value_octets SEQUENCE) (p.2 ∙ ap (λ (t : List ℕ). t ++ p.1) first
          ∙ ap (λ (t : List ℕ). value_octets INTEGER (integer_contents (digits 512 n)) ++ t)
          second);
      modulus = m;
    }
