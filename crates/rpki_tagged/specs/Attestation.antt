-- The content of a multi-signed attestation. The sections are those of draft-michaelson-rpki-rta.
use Rattle.std.specs.Prelude.{◌++◌, ℕ, List, [], ◌∷◌, Some}
use Rattle.std.specs.List.{flat_map}
use Rattle.rpki_der.specs.Numbers.{MAX_DEPTH}
use Rattle.rpki_der.specs.Tags.{OCTET_STRING, SEQUENCE, SET, context}
use Rattle.rpki_der.specs.declared.mode.Mode.{Mode}
use Rattle.rpki_der.specs.Grammar.{OctetString}
use Rattle.rpki_der.specs.Read.Parse.{Parser, ◌>>=◌, optional, octets_at}
use Rattle.rpki_der.specs.Form.Parts.{Sequence, SetOf, sequence_at, set_of_at}
use Rattle.rpki_der.specs.Form.Made.{Made}
use Rattle.rpki_der.specs.Write.Written.{value_octets}
use Rattle.rpki_resources.specs.As.Form.{AsForm}
use Rattle.rpki_resources.specs.As.Read.{as_blocks_at}
use Rattle.rpki_resources.specs.As.Written.{as_octets}
use Rattle.rpki_basics.specs.Algorithm.{DigestAlgorithmForm, digest_algorithm_at}
use Rattle.rpki_basics.specs.Algorithm.{digest_algorithm_octets}
use Rattle.rpki_basics.specs.Identifier.{KeyIdentifierForm, key_identifier_at}
use Rattle.rpki_basics.specs.Identifier.{key_identifier_octets}
use Rattle.rpki_lists.specs.declared.named.Named.{Named}
use Rattle.rpki_lists.specs.Named.{Set, ResourceBlockForm, sets_of, sets_at}
use Rattle.rpki_lists.specs.Named.{resource_block_contents}
use Rattle.rpki_lists.specs.Version.{OptionalVersion, version_at}

-- what a content says: the identifiers of the keys that are to sign, the numbers that are attested,
-- and the digest of the document
pub record Attestation : Type 0 where
  pub subject_keys : List (List ℕ)
  pub as_resources : Set
  pub v4_resources : Set
  pub v6_resources : Set
  pub message_digest : List ℕ

-- ResourceBlock ::= SEQUENCE { asID [0] AsList OPTIONAL, ipAddrBlocks [1] IPList OPTIONAL }, where
-- something is named (4). The families may stand in either order, each at most once. That the sets
-- may be empty, and their blocks in any order, is this project's own rule.
abbrev pub NamedForm : Mode → List ℕ → Named → Type 0
NamedForm = ResourceBlockForm AsForm

-- ResourceTaggedAttestation ::= SEQUENCE { version [0] INTEGER DEFAULT 0, subjectKeyIdentifiers SET
-- OF SubjectKeyIdentifier, resources ResourceBlock, digestAlgorithm AlgorithmIdentifier,
-- messageDigest OCTET STRING } (4). The algorithm is SHA-256 (RFC 7935, section 2). That the keys
-- may stand in any order and more than once, that there may be none, and that the digest has any
-- length, is this project's own rule.
abbrev pub AttestationForm : Mode → List ℕ → Attestation → Type 0
AttestationForm mode octets a = Sequence mode (
    OptionalVersion mode
    ∷ (λ o. SetOf mode (KeyIdentifierForm mode) o a.subject_keys)
    ∷ (λ o. Made sets_of (NamedForm mode) o (a.as_resources, (a.v4_resources, a.v6_resources)))
    ∷ (λ o. DigestAlgorithmForm mode o tt)
    ∷ (λ o. OctetString mode MAX_DEPTH o a.message_digest)
    ∷ []) octets

-- ---- as functions

-- the keys
abbrev pub subject_keys_at : Parser (List (List ℕ))
subject_keys_at = set_of_at OCTET_STRING key_identifier_at

-- the fields, one after another
unfoldable pub fields_at : Parser Attestation
fields_at mode bytes = do
  version ← optional (context 0) version_at mode bytes
  keys ← subject_keys_at mode version.1
  sets ← sets_at as_blocks_at mode keys.1
  algorithm ← digest_algorithm_at mode sets.1
  digest ← octets_at MAX_DEPTH mode algorithm.1
  Some (
    record {
      subject_keys = keys.0;
      as_resources = sets.0.0;
      v4_resources = sets.0.1.0;
      v6_resources = sets.0.1.1;
      message_digest = digest.0;
    },
    digest.1,
  )

-- a content
abbrev pub attestation_at : Parser Attestation
attestation_at = sequence_at fields_at

-- ---- as octets

-- the keys, one after the other
abbrev pub keys_octets : Attestation → List ℕ
keys_octets a = flat_map key_identifier_octets a.subject_keys

-- AS numbers
abbrev pub numbers_octets : Set → List ℕ
numbers_octets set = value_octets (context 0) (value_octets SEQUENCE (flat_map as_octets set))

-- what stands in the SEQUENCE of the numbers
abbrev pub named_contents : Attestation → List ℕ
named_contents a =
    resource_block_contents numbers_octets a.as_resources a.v4_resources a.v6_resources

-- the octets in the SEQUENCE of a content, without its header
abbrev pub attestation_contents : Attestation → List ℕ
attestation_contents a = value_octets SET (keys_octets a)
    ++ (value_octets SEQUENCE (named_contents a)
    ++ (digest_algorithm_octets ++ value_octets OCTET_STRING a.message_digest))

-- a content, without its version, and without sets that have no number, but for the AS numbers
-- where all three have none
abbrev pub attestation_octets : Attestation → List ℕ
attestation_octets a = value_octets SEQUENCE (attestation_contents a)
