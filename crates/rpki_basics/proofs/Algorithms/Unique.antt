-- In DER an algorithm and a key have two writings: with a NULL, and without.
use Rattle.rpki_der.specs.Tags.{BIT_STRING, NULL, OBJECT_IDENTIFIER, SEQUENCE}
use Rattle.std.proofs.Common.{◌≡◌, ℕ, List, [], ◌++◌, Option, Some, None, sym, ap, subst, ◌∙◌, inl}
use Rattle.std.proofs.Common.{inr}
use Rattle.std.specs.Prelude.{◌⊎◌}
use Rattle.std.proofs.lemmas.List.{append-nil}
use Rattle.rpki_der.specs.declared.mode.Mode.TheVariants.{Der}
use Rattle.rpki_der.specs.Grammar.{Value, ObjectIdentifier, Null, Optional, BitString, IsBytes}
use Rattle.rpki_der.specs.Write.Written.{value_octets, bit_string_contents}
use Rattle.rpki_der.proofs.Reading.Exact.{IsBytes-left, IsBytes-right, IsBytes-contents}
use Rattle.rpki_der.proofs.Writing.Lengths.{value-unique}
use Rattle.rpki_der.proofs.Writing.Strings.{bits-whole}
use Rattle.rpki_basics.specs.Algorithm.{AlgorithmForm, algorithm_alone, algorithm_and_null}
use Rattle.rpki_basics.specs.Algorithm.{rsa_encryption}
use Rattle.rpki_basics.specs.Key.{KeyForm, key_octets, key_octets_alone}

pub inside : (o : List ℕ) (tag : ℕ) (c : List ℕ) → IsBytes o → Value Der o tag c → IsBytes c
inside o tag c bytes v = IsBytes-contents Der o o [] tag c (sym (append-nil o)) v bytes

pub oid-one : (o oid : List ℕ) → IsBytes o → ObjectIdentifier Der o oid
    → o ≡ value_octets OBJECT_IDENTIFIER oid
oid-one o oid bytes h = value-unique o OBJECT_IDENTIFIER h.0 bytes h.1
    ∙ ap (value_octets OBJECT_IDENTIFIER) h.2.0

null-only : (n : List ℕ) (x : Option (Unit {0})) → IsBytes n
    → Optional (λ o (_ : Unit {0}). Null Der o) n x → (n ≡ []) ⊎ (n ≡ value_octets NULL [])
null-only n None bytes h = inl h
null-only n (Some u) bytes h =
    inr (value-unique n NULL h.0 bytes h.1 ∙ ap (value_octets NULL) h.2)

pub algorithm-only : (o oid : List ℕ) → IsBytes o → AlgorithmForm Der o oid
    → (o ≡ algorithm_alone oid) ⊎ (o ≡ algorithm_and_null oid)
algorithm-only o oid bytes h =
    let p = h.2 in
    let r = p.4 in
    let c : IsBytes h.0 = inside o SEQUENCE h.0 bytes h.1 in
    let f : IsBytes p.0 = IsBytes-left p.0 p.1 (subst IsBytes p.2 c) in
    let s : IsBytes p.1 = IsBytes-right p.0 p.1 (subst IsBytes p.2 c) in
    let n : IsBytes r.0 = IsBytes-left r.0 r.1 (subst IsBytes r.2 s) in
    let id : p.0 ≡ value_octets OBJECT_IDENTIFIER oid = oid-one p.0 oid f p.3 in
    let last : p.1 ≡ r.0 = r.2 ∙ ap (λ (t : List ℕ). r.0 ++ t) r.4 ∙ append-nil r.0 in
    let is : o ≡ value_octets SEQUENCE (value_octets OBJECT_IDENTIFIER oid ++ r.0) =
    value-unique o SEQUENCE h.0 bytes h.1
    ∙ ap (value_octets SEQUENCE) (p.2 ∙ ap (λ (t : List ℕ). t ++ p.1) id
    ∙ ap (λ (t : List ℕ). value_octets OBJECT_IDENTIFIER oid ++ t) last) in
    let at = λ (t : List ℕ). value_octets SEQUENCE (value_octets OBJECT_IDENTIFIER oid ++ t) in
    elim (null-only r.0 r.3.0 n r.3.1) [
      | inl e ↦ inl (is ∙ ap at e
          ∙ ap (value_octets SEQUENCE) (append-nil (value_octets OBJECT_IDENTIFIER oid)))
      | inr e ↦ inr (is ∙ ap at e)
    ]

string-one : (o bits : List ℕ) → IsBytes o → BitString Der o (bits, 0)
    → o ≡ value_octets BIT_STRING (bit_string_contents bits 0)
string-one o bits bytes h =
    value-unique o BIT_STRING h.0 bytes h.1
    ∙ ap (value_octets BIT_STRING) (h.2.0 ∙ sym (bits-whole bits))

pub key-only : (o bits : List ℕ) → IsBytes o → KeyForm Der o bits
    → (o ≡ key_octets bits) ⊎ (o ≡ key_octets_alone bits)
key-only o bits bytes h =
    let p = h.2 in
    let r = p.4 in
    let c : IsBytes h.0 = inside o SEQUENCE h.0 bytes h.1 in
    let f : IsBytes p.0 = IsBytes-left p.0 p.1 (subst IsBytes p.2 c) in
    let s : IsBytes p.1 = IsBytes-right p.0 p.1 (subst IsBytes p.2 c) in
    let n : IsBytes r.0 = IsBytes-left r.0 r.1 (subst IsBytes r.2 s) in
    let string : r.0 ≡ value_octets BIT_STRING (bit_string_contents bits 0) =
    string-one r.0 bits n r.3 in
    let last : p.1 ≡ value_octets BIT_STRING (bit_string_contents bits 0) =
    r.2 ∙ ap (λ (t : List ℕ). r.0 ++ t) r.4 ∙ append-nil r.0 ∙ string in
    let is : o ≡ value_octets SEQUENCE
    (p.0 ++ value_octets BIT_STRING (bit_string_contents bits 0)) =
    value-unique o SEQUENCE h.0 bytes h.1
    ∙ ap (value_octets SEQUENCE) (p.2 ∙ ap (λ (t : List ℕ). p.0 ++ t) last) in
    let at = λ (t : List ℕ).
    value_octets SEQUENCE (t ++ value_octets BIT_STRING (bit_string_contents bits 0)) in
    elim (algorithm-only p.0 rsa_encryption f p.3) [
      | inl e ↦ inr (is ∙ ap at e)
      | inr e ↦ inl (is ∙ ap at e)
    ]
