-- Identifiers of algorithms (RFC 5280, section 4.1.1.2; RFC 7935, section 2).
use Rattle.std.specs.Prelude.{ℕ, List, [], ◌∷◌, ◌++◌, ◌⊎◌, Option, Some, None, bytes_eq, ◌||◌}
use Rattle.std.specs.Prelude.{if◌then◌else◌}
use Rattle.rpki_der.specs.declared.mode.Mode.{Mode}
use Rattle.rpki_der.specs.Grammar.{ObjectIdentifier, Null, Optional}
use Rattle.rpki_der.specs.Read.Parse.{Parser, ◌>>=◌, oid_at, primitive, null_of, optional}
use Rattle.rpki_der.specs.Write.Written.{value_octets}
use Rattle.rpki_der.specs.Tags.{SEQUENCE, OBJECT_IDENTIFIER, NULL}
use Rattle.rpki_der.specs.Form.Parts.{Sequence, sequence_at}
use Rattle.rpki_der.specs.Form.Made.{Ignored, partly}

-- id-sha256, 2.16.840.1.101.3.4.2.1 (RFC 5754, section 2.2)
abbrev pub sha_256 : List ℕ
sha_256 = 0x60 ∷ 0x86 ∷ 0x48 ∷ 0x01 ∷ 0x65 ∷ 0x03 ∷ 0x04 ∷ 0x02 ∷ 0x01 ∷ []

-- rsaEncryption, 1.2.840.113549.1.1.1 (RFC 8017, appendix C)
abbrev pub rsa_encryption : List ℕ
rsa_encryption = 0x2A ∷ 0x86 ∷ 0x48 ∷ 0x86 ∷ 0xF7 ∷ 0x0D ∷ 0x01 ∷ 0x01 ∷ 0x01 ∷ []

-- sha256WithRSAEncryption, 1.2.840.113549.1.1.11 (RFC 8017, appendix C)
abbrev pub sha256_with_rsa : List ℕ
sha256_with_rsa = 0x2A ∷ 0x86 ∷ 0x48 ∷ 0x86 ∷ 0xF7 ∷ 0x0D ∷ 0x01 ∷ 0x01 ∷ 0x0B ∷ []

-- AlgorithmIdentifier ::= SEQUENCE { algorithm, NULL OPTIONAL } (RFC 5280, section 4.1.1.2). That
-- the NULL may be missing after rsaEncryption too, against RFC 3370, section 3.2, is this project's
-- own rule; after sha256WithRSAEncryption RFC 4055, section 5, asks readers to take both.
abbrev pub AlgorithmForm : Mode → List ℕ → List ℕ → Type 0
AlgorithmForm mode octets oid = Sequence mode (
    (λ o. ObjectIdentifier mode o oid)
    ∷ Ignored (Optional (λ o (_ : Unit {0}). Null mode o))
    ∷ []) octets

-- The algorithm of digests: SHA-256 (RFC 7935, section 2).
abbrev pub DigestAlgorithmForm : Mode → List ℕ → Unit {0} → Type 0
DigestAlgorithmForm mode octets _ = AlgorithmForm mode octets sha_256

-- The algorithm of the signature of a signed object: rsaEncryption or sha256WithRSAEncryption (RFC
-- 7935, section 2).
abbrev pub CmsAlgorithmForm : Mode → List ℕ → Unit {0} → Type 0
CmsAlgorithmForm mode octets _ =
    AlgorithmForm mode octets rsa_encryption ⊎ AlgorithmForm mode octets sha256_with_rsa

-- The algorithm of the signature of a certificate or a revocation list: sha256WithRSAEncryption
-- (RFC 7935, section 2).
abbrev pub CertAlgorithmForm : Mode → List ℕ → Unit {0} → Type 0
CertAlgorithmForm mode octets _ = AlgorithmForm mode octets sha256_with_rsa

-- ---- as functions

-- The identifier, and a NULL, if there is one.
unfoldable pub algorithm_fields_at : Parser (List ℕ)
algorithm_fields_at mode bytes = do
  oid ← oid_at mode bytes
  null ← optional NULL (primitive NULL null_of) mode oid.1
  Some (oid.0, null.1)

-- The identifier of an algorithm.
abbrev pub algorithm_at : Parser (List ℕ)
algorithm_at = sequence_at algorithm_fields_at

-- What was read is this identifier.
abbrev pub named : List ℕ → List ℕ → Option (Unit {0})
named oid read = if bytes_eq read oid then Some tt else None

-- What was read is one of these identifiers.
abbrev pub either_named : List ℕ → List ℕ → List ℕ → Option (Unit {0})
either_named first second read =
    if bytes_eq read first || bytes_eq read second then Some tt else None

-- The algorithm of digests.
abbrev pub digest_algorithm_at : Parser (Unit {0})
digest_algorithm_at = partly (named sha_256) algorithm_at

-- The algorithm of the signature of a signed object.
abbrev pub cms_algorithm_at : Parser (Unit {0})
cms_algorithm_at = partly (either_named rsa_encryption sha256_with_rsa) algorithm_at

-- The algorithm of the signature of a certificate or a revocation list.
abbrev pub cert_algorithm_at : Parser (Unit {0})
cert_algorithm_at = partly (named sha256_with_rsa) algorithm_at

-- ---- as octets

-- SEQUENCE { algorithm }
abbrev pub algorithm_alone : List ℕ → List ℕ
algorithm_alone oid = value_octets SEQUENCE (value_octets OBJECT_IDENTIFIER oid)

-- SEQUENCE { algorithm, NULL }
abbrev pub algorithm_and_null : List ℕ → List ℕ
algorithm_and_null oid =
    value_octets SEQUENCE (value_octets OBJECT_IDENTIFIER oid ++ value_octets NULL [])

-- SHA-256, without a NULL (RFC 5754, section 2).
abbrev pub digest_algorithm_octets : List ℕ
digest_algorithm_octets = algorithm_alone sha_256

-- rsaEncryption, with a NULL (RFC 3370, section 3.2).
abbrev pub cms_algorithm_octets : List ℕ
cms_algorithm_octets = algorithm_and_null rsa_encryption

-- sha256WithRSAEncryption, with a NULL (RFC 4055, section 5).
abbrev pub cert_algorithm_octets : List ℕ
cert_algorithm_octets = algorithm_and_null sha256_with_rsa
