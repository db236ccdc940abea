-- Contents are read exactly: a line for each field.
use Rattle.std.proofs.Common.{ℕ, List, refl}
use Rattle.rpki_der.specs.Numbers.{MAX_DEPTH}
use Rattle.rpki_der.specs.Tags.{SEQUENCE, SET, OCTET_STRING, context}
use Rattle.rpki_der.specs.Form.Law.{nothing, is, IsPart}
use Rattle.rpki_der.specs.Form.Made.{Made}
use Rattle.rpki_der.specs.Form.Parts.{SetOf}
use Rattle.rpki_der.proofs.Form.Fields.{field, fixed, skipped, done, within}
use Rattle.rpki_der.proofs.Form.Kinds.{octets-part}
use Rattle.rpki_der.proofs.Form.Words.{option, list-of}
use Rattle.rpki_basics.specs.Identifier.{KeyIdentifierForm}
use Rattle.rpki_basics.proofs.Algorithms.Parts.{digest-part}
use Rattle.rpki_basics.proofs.Keys.Identifiers.{identifier-part}
use Rattle.rpki_resources.specs.As.Form.{AsForm}
use Rattle.rpki_resources.specs.As.Read.{as_blocks_at}
use Rattle.rpki_resources.proofs.AsNumbers.Exact.{as-part}
use Rattle.rpki_lists.specs.Named.{Sets, sets_of, sets_at}
use Rattle.rpki_lists.proofs.Names.Exact.{resource-block-part}
use Rattle.rpki_lists.proofs.Versions.{version-part}
use Rattle.rpki_tagged.specs.Attestation.{Attestation, NamedForm, AttestationForm}
use Rattle.rpki_tagged.specs.Attestation.{subject_keys_at, fields_at, attestation_at}

-- ---- the keys

pub keys-part : IsPart (is SET) nothing subject_keys_at
    (λ mode. SetOf mode (KeyIdentifierForm mode))
keys-part = list-of OCTET_STRING identifier-part SET

-- ---- what is named

pub sets-part : IsPart (is SEQUENCE) nothing (sets_at as_blocks_at)
    (λ mode. Made sets_of (NamedForm mode))
sets-part = resource-block-part as_blocks_at AsForm as-part

-- ---- a content

abbrev content : List (List ℕ) → Sets → List ℕ → Attestation
content keys sets digest = record {
  subject_keys = keys;
  as_resources = sets.0;
  v4_resources = sets.1.0;
  v6_resources = sets.1.1;
  message_digest = digest;
}

pub attestation-part : IsPart (is SEQUENCE) nothing attestation_at AttestationForm
unfolding fields_at
attestation-part = within SEQUENCE (
    skipped (option (context 0) version-part) (
    field (λ (a : Attestation). a.subject_keys) keys-part (λ keys.
    field (λ (a : Attestation). (a.as_resources, (a.v4_resources, a.v6_resources))) sets-part
    (λ sets.
    fixed digest-part (
    field (λ (a : Attestation). a.message_digest) (octets-part MAX_DEPTH) (λ digest.
    done (content keys sets digest) (((tt, refl), refl), refl)
    (λ a k i. record {
      subject_keys = k.0.0.1 i;
      as_resources = (k.0.1 i).0;
      v4_resources = (k.0.1 i).1.0;
      v6_resources = (k.0.1 i).1.1;
      message_digest = k.1 i;
    })) refl) refl) refl) refl) refl)
