-- What is written of a key is in its form.
use Rattle.rpki_der.specs.Tags.{BIT_STRING, SEQUENCE}
use Rattle.std.proofs.Common.{◌≡◌, ℕ, ◌<◌, ◌^◌, List, [], ◌++◌, length, Some, refl, sym, arith}
use Rattle.std.proofs.lemmas.List.{append-nil}
use Rattle.rpki_der.specs.declared.mode.Mode.{Mode}
use Rattle.rpki_der.specs.declared.mode.Mode.TheVariants.{Der}
use Rattle.rpki_der.specs.Grammar.{BitString}
use Rattle.rpki_der.specs.Write.Parts.{length_parts, contents_small}
use Rattle.rpki_der.specs.Write.Written.{value_octets, bit_string_contents}
use Rattle.rpki_der.proofs.Reading.Scan.{tag-sound}
use Rattle.rpki_der.proofs.Writing.Lengths.{value-written}
use Rattle.rpki_der.proofs.Writing.Strings.{bits-whole}
use Rattle.rpki_basics.specs.Algorithm.{algorithm_and_null, rsa_encryption}
use Rattle.rpki_basics.specs.Key.{KeyForm, key_at, key_contents, key_octets}
use Rattle.rpki_basics.proofs.Algorithms.Parts.{read-back}
use Rattle.rpki_basics.proofs.Algorithms.Written.{rsa-written}
use Rattle.rpki_basics.proofs.Keys.Parts.{key-part}

string-written : (bits : List ℕ) → length (bit_string_contents bits 0) < 2 ^ 32
    → BitString Der (value_octets BIT_STRING (bit_string_contents bits 0)) (bits, 0)
string-written bits h =
    let c : List ℕ = bit_string_contents bits 0 in (
      c,
      value-written BIT_STRING c (tag-sound BIT_STRING refl) h,
      (bits-whole bits, record { few = omega arith; none = λ _. refl }),
    )

pub key-written : (bits : List ℕ) → length (key_contents bits) < 2 ^ 32
    → KeyForm Der (key_octets bits) bits
key-written bits h =
    let a : List ℕ = algorithm_and_null rsa_encryption in
    let b : List ℕ = value_octets BIT_STRING (bit_string_contents bits 0) in
    let l : length (value_octets BIT_STRING (bit_string_contents bits 0)) < 2 ^ 32 =
    (length_parts a b h).1 in
    let small : length (bit_string_contents bits 0) < 2 ^ 32 =
    contents_small BIT_STRING (bit_string_contents bits 0) l in (
      a ++ b,
      value-written SEQUENCE (a ++ b) (tag-sound SEQUENCE refl) h,
      (a, b, refl, rsa-written, (b, [], sym (append-nil b), string-written bits small, refl)),
    )

pub key-read : (mode : Mode) (bits rest : List ℕ) → length (key_contents bits) < 2 ^ 32
    → key_at mode (key_octets bits ++ rest) ≡ Some (bits, rest)
key-read mode bits rest h =
    read-back key-part mode (key_octets bits) bits rest (key-written bits h)
