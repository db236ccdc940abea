-- The octets of a key.
use Rattle.std.specs.Prelude.{ℕ, List, [], ◌∷◌, ◌++◌, Some}
use Rattle.rpki_der.specs.declared.mode.Mode.{Mode}
use Rattle.rpki_der.specs.Grammar.{OctetsInBits}
use Rattle.rpki_der.specs.Read.Parse.{Parser, ◌>>=◌, octets_in_bits_at}
use Rattle.rpki_der.specs.Write.Written.{value_octets, bit_string_contents}
use Rattle.rpki_der.specs.Tags.{SEQUENCE, BIT_STRING}
use Rattle.rpki_der.specs.Form.Parts.{Sequence, sequence_at}
use Rattle.rpki_der.specs.Form.Made.{partly}
use Rattle.rpki_basics.specs.Algorithm.{AlgorithmForm, rsa_encryption, named, algorithm_at}
use Rattle.rpki_basics.specs.Algorithm.{algorithm_alone, algorithm_and_null}

-- SubjectPublicKeyInfo ::= SEQUENCE { rsaEncryption, BIT STRING } without unused bits (RFC 5280,
-- section 4.1.2.7). That the algorithm is rsaEncryption (RFC 3279, section 2.3.1) is this project's
-- own reading of RFC 7935, section 3.1. That the NULL after it may be missing, against RFC 3279, is
-- this project's own rule. That any bits pass, where RFC 7935, section 3, asks for an RSAPublicKey
-- of 2048 bits with the exponent 65537, is this project's own rule: that is left to cryptography.
abbrev pub KeyForm : Mode → List ℕ → List ℕ → Type 0
KeyForm mode octets bits = Sequence mode (
    (λ o. AlgorithmForm mode o rsa_encryption)
    ∷ (λ o. OctetsInBits mode o bits)
    ∷ []) octets

-- The algorithm and the bits.
unfoldable pub key_fields_at : Parser (List ℕ)
key_fields_at mode bytes = do
  algorithm ← partly (named rsa_encryption) algorithm_at mode bytes
  bits ← octets_in_bits_at mode algorithm.1
  Some (bits.0, bits.1)

-- The bits of a key.
abbrev pub key_at : Parser (List ℕ)
key_at = sequence_at key_fields_at

-- The contents that a key is written with: rsaEncryption with a NULL, and its bits.
abbrev pub key_contents : List ℕ → List ℕ
key_contents bits =
    algorithm_and_null rsa_encryption ++ value_octets BIT_STRING (bit_string_contents bits 0)

-- The octets that a key with these bits is written as.
abbrev pub key_octets : List ℕ → List ℕ
key_octets bits = value_octets SEQUENCE (key_contents bits)

-- The other octets that a key may have in DER: the algorithm without a NULL.
abbrev pub key_octets_alone : List ℕ → List ℕ
key_octets_alone bits =
    value_octets SEQUENCE (algorithm_alone rsa_encryption
    ++ value_octets BIT_STRING (bit_string_contents bits 0))
