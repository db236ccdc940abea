-- Signatures by RSASSA-PKCS1-v1_5 with SHA-256 (RFC 8017, sections 8.2.2 and 9.2; RFC 7935,
-- section 2).
use Rattle.std.specs.Prelude.{◌≡◌, ℕ, ◌+◌, ◌-◌, ◌^◌, ◌%◌, ◌<◌, ◌≤◌, List, [], ◌∷◌, ◌++◌, length}
use Rattle.std.specs.Prelude.{replicate, take, drop, Bool, ◌&&◌, ◌==◌, bytes_eq, nat_le, nat_lt}
use Rattle.sha2.specs.Sha256.{sha256}
use Rattle.rpki_der.specs.declared.mode.Mode.{Mode}
use Rattle.rpki_der.specs.Grammar.{Integer}
use Rattle.rpki_der.specs.Form.Parts.{Sequence}
use Rattle.rpki_der.specs.Numbers.{number}
use Rattle.rpki_der.specs.Tags.{SEQUENCE, INTEGER, OCTET_STRING}
use Rattle.rpki_der.specs.Write.Written.{value_octets, integer_contents, number_octets}
use Rattle.rpki_basics.specs.Algorithm.{sha_256, algorithm_and_null}
use Rattle.rpki_basics.specs.Serial.{digits}

-- ---- the key

-- the exponent of each key (RFC 7935, section 3)
abbrev pub public_exponent : ℕ
public_exponent = 65537

-- how many bits a modulus has at least (RFC 7935, section 3)
abbrev pub least_bits : ℕ
least_bits = 2048

-- How many bits a modulus has at most. RFC 7935, section 3, asks for 2048: that more may come is
-- this project's own rule.
abbrev pub most_bits : ℕ
most_bits = 4096

-- in how many octets a modulus is written at least
abbrev pub least_octets : ℕ
least_octets = 256

-- in how many octets a modulus is written at most
abbrev pub most_octets : ℕ
most_octets = 512

-- RSAPublicKey ::= SEQUENCE { modulus INTEGER, publicExponent INTEGER } in DER, of the exponent
-- 65537, with these contents of the modulus (RFC 8017, appendix A.1.1; RFC 7935, sections 3 and
-- 3.1)
unfoldable pub key_with : List ℕ → List ℕ
key_with contents =
    value_octets SEQUENCE (value_octets INTEGER contents ++ number_octets public_exponent)

-- the key of this modulus, which has at most 4096 bits
abbrev pub rsa_key_octets : ℕ → List ℕ
rsa_key_octets n = key_with (integer_contents (digits most_octets n))

-- What is taken for a modulus: an odd number of 2048 to 4096 bits. RFC 7935, section 3, asks for
-- 2048: that more may come is this project's own rule. That it is a product of two primes or more
-- (RFC 8017, section 3.1) can't be seen from the number, and is no part of this.
pub record IsModulus (n : ℕ) : Type 0 where
  -- it has 2048 bits or more
  pub least : 2 ^ (least_bits - 1) ≤ n
  -- it has 4096 bits or fewer
  pub most : n < 2 ^ most_bits
  -- it is odd
  pub odd : n % 2 ≡ 1

-- the bits of a key are those of this modulus and of the exponent 65537
pub record IsRsaKey (key : List ℕ) (n : ℕ) : Type 0 where
  pub octets : key ≡ rsa_key_octets n
  pub modulus : IsModulus n

-- RSAPublicKey ::= SEQUENCE { modulus INTEGER, publicExponent INTEGER }, of the exponent 65537 (RFC
-- 8017, appendix A.1.1; RFC 7935, sections 3 and 3.1)
abbrev pub RsaKeyForm : Mode → List ℕ → ℕ → Type 0
RsaKeyForm mode octets n = Sequence mode (
    (λ o. Integer mode o n)
    ∷ (λ o. Integer mode o public_exponent)
    ∷ []) octets

-- ---- the encoded message

-- DigestInfo ::= SEQUENCE { digestAlgorithm, digest OCTET STRING }, the algorithm with a NULL (RFC
-- 8017, section 9.2, step 2 and note 1, and appendix A.2.4)
unfoldable pub digest_info : List ℕ → List ℕ
digest_info message =
    value_octets SEQUENCE (algorithm_and_null sha_256 ++ value_octets OCTET_STRING (sha256 message))

-- what stands in front of the padding (RFC 8017, section 9.2, step 5)
abbrev pub padding_front : List ℕ
padding_front = 0x00 ∷ 0x01 ∷ []

-- the octet of which the padding is made (RFC 8017, section 9.2, step 4)
abbrev pub padding_octet : ℕ
padding_octet = 0xFF

-- what stands between the padding and the DigestInfo (RFC 8017, section 9.2, step 5)
abbrev pub padding_end : List ℕ
padding_end = 0x00 ∷ []

-- how many octets of padding make the encoded message one of k octets (RFC 8017, section 9.2, step
-- 4)
abbrev pub padding_length : ℕ → List ℕ → ℕ
padding_length k message = k - length (digest_info message) - length (padding_front ++ padding_end)

-- the encoded message of k octets: 00, 01, octets FF, 00 and the DigestInfo (RFC 8017, section 9.2,
-- step 5)
unfoldable pub encoded_message : ℕ → List ℕ → List ℕ
encoded_message k message =
    padding_front
    ++ (replicate (padding_length k message) padding_octet
    ++ (padding_end ++ digest_info message))

-- ---- the signature

-- the number is written with k octets, the first of which is not zero
pub record HasOctets (n k : ℕ) : Type 0 where
  pub least : 256 ^ (k - 1) ≤ n
  pub most : n < 256 ^ k

-- the signature of the message by the key with this modulus (RFC 8017, section 8.2.2)
pub record IsSignatureOf (n : ℕ) (message signature : List ℕ) : Type 0 where
  -- it has as many octets as the modulus (step 1)
  pub long : HasOctets n (length signature)
  -- its number is below the modulus (step 2b, by section 5.2.2, step 1)
  pub below : number 0 signature < n
  -- its power modulo the modulus is the number of the encoded message (step 2b, by section 5.2.2,
  -- step 2, and steps 3 and 4)
  pub power : (number 0 signature ^ public_exponent) % n
      ≡ number 0 (encoded_message (length signature) message)

-- the bits of the key are those of a modulus and of the exponent 65537 (`IsRsaKey`), and the
-- signature is that of the message by the key with this modulus (`IsSignatureOf`)
pub record IsRsaSignature (key message signature : List ℕ) : Type 0 where
  pub n : ℕ
  pub key_is : IsRsaKey key n
  pub signed : IsSignatureOf n message signature

-- ---- the same, as a test

-- how many octets a header has with a length of two octets: an identifier and the length (X.690,
-- section 8.1.3.5)
abbrev pub header_octets : ℕ
header_octets = 4

-- how many octets of a key stand in front of the contents of the modulus: two headers
abbrev pub octets_before : ℕ
octets_before = header_octets + header_octets

-- how many octets of a key stand after the contents of the modulus: the INTEGER 65537
abbrev pub octets_after : ℕ
octets_after = 5

-- the contents of the modulus of a key
abbrev pub contents_in : List ℕ → List ℕ
contents_in key = take (length key - (octets_before + octets_after)) (drop octets_before key)

-- the number of the modulus of a key
abbrev pub modulus_in : List ℕ → ℕ
modulus_in key = number 0 (contents_in key)

-- whether this is the key of this modulus
unfoldable pub is_rsa_key : List ℕ → ℕ → Bool
is_rsa_key key n =
    bytes_eq key (rsa_key_octets n)
    && (nat_le (2 ^ (least_bits - 1)) n && (nat_lt n (2 ^ most_bits) && (n % 2 == 1)))

-- whether this is the signature of the message by the key with this modulus
unfoldable pub is_signature_of : ℕ → List ℕ → List ℕ → Bool
is_signature_of n message signature =
    nat_le (256 ^ (length signature - 1)) n
    && (nat_lt n (256 ^ length signature)
    && (nat_lt (number 0 signature) n
    && ((number 0 signature ^ public_exponent) % n
    == number 0 (encoded_message (length signature) message))))

-- whether the key with these bits says yes to this signature of the message
unfoldable pub is_rsa_signature : List ℕ → List ℕ → List ℕ → Bool
is_rsa_signature key message signature =
    is_rsa_key key (modulus_in key) && is_signature_of (modulus_in key) message signature
