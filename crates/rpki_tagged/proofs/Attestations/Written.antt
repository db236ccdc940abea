-- What is written of a content is in its form.
use Rattle.std.proofs.Common.{◌≡◌, ℕ, ◌<◌, ◌^◌, List, [], ◌∷◌, ◌++◌, length}
use Rattle.std.proofs.Common.{All, None, Err, refl, sym, subst, arith}
use Rattle.std.specs.List.{flat_map}
use Rattle.std.proofs.lemmas.List.{append-nil}
use Rattle.rpki_der.specs.Numbers.{MAX_DEPTH}
use Rattle.rpki_der.specs.Tags.{SEQUENCE, SET, OCTET_STRING, context}
use Rattle.rpki_der.specs.declared.encode.EncodeError.{EncodeError}
use Rattle.rpki_der.specs.declared.encode.EncodeError.TheVariants.{NotDer, TooLong, Io, Memory}
use Rattle.rpki_der.specs.declared.mode.Mode.TheVariants.{Der}
use Rattle.rpki_der.specs.Grammar.{Items, OctetString}
use Rattle.rpki_der.specs.Form.Made.{Made}
use Rattle.rpki_der.specs.Form.Parts.{Explicit, Parts, SetOf}
use Rattle.rpki_der.specs.Write.Encode.{IsLenOf}
use Rattle.rpki_der.specs.Write.Parts.{contents_small, length_parts}
use Rattle.rpki_der.specs.Write.Written.{value_octets, length_value_octets_le}
use Rattle.rpki_der.proofs.Reading.Scan.{tag-sound}
use Rattle.rpki_der.proofs.Writing.Leaves.{within-written, items-written}
use Rattle.rpki_der.proofs.Writing.Lengths.{value-written}
use Rattle.rpki_der.proofs.Writing.Values.{octets-written}
use Rattle.rpki_basics.specs.Algorithm.{DigestAlgorithmForm, digest_algorithm_octets}
use Rattle.rpki_basics.specs.Identifier.{KeyIdentifierForm, identifier_length}
use Rattle.rpki_basics.specs.Identifier.{key_identifier_octets}
use Rattle.rpki_resources.specs.As.Form.{AsForm}
use Rattle.rpki_resources.specs.As.Written.{as_octets}
use Rattle.rpki_lists.specs.Named.{Set, sets_of}
use Rattle.rpki_lists.specs.Version.{OptionalVersion}
use Rattle.rpki_lists.proofs.Names.Written.{AsWritten, AreWritten, resource-block-written}
use Rattle.rpki_tagged.specs.Attestation.{Attestation, NamedForm, AttestationForm}
use Rattle.rpki_tagged.specs.Attestation.{keys_octets, numbers_octets, named_contents}
use Rattle.rpki_tagged.specs.Attestation.{attestation_contents, attestation_octets}

-- ---- what is named

numbers-written : (set : Set) → AsWritten set → length (numbers_octets set) < 2 ^ 32
    → Explicit 0 Der (λ d. AsForm Der d set) (numbers_octets set)
numbers-written set written short =
    let list = value_octets SEQUENCE (flat_map as_octets set) in
    let few = contents_small (context 0) list short in
    within-written (context 0) (λ d. AsForm Der d set) list (tag-sound (context 0) refl) few
    (written (contents_small SEQUENCE (flat_map as_octets set) few))

sets-written : (a : Attestation) → AreWritten a.as_resources a.v4_resources a.v6_resources
    → length (named_contents a) < 2 ^ 32
    → Made sets_of (NamedForm Der) (value_octets SEQUENCE (named_contents a))
    (a.as_resources, (a.v4_resources, a.v6_resources))
sets-written a w short =
    resource-block-written AsForm numbers_octets a.as_resources a.v4_resources a.v6_resources
    (numbers-written a.as_resources w.numbers) w.v4 w.v6 short

-- ---- the keys

key-written : (id : List ℕ) → length id ≡ identifier_length
    → KeyIdentifierForm Der (key_identifier_octets id) id
key-written id len =
    (value-written OCTET_STRING id (tag-sound OCTET_STRING refl) (omega (arith, len)), len)

keys-written : (ids : List (List ℕ)) → All (λ id. length id ≡ identifier_length) ids
    → length (flat_map key_identifier_octets ids) < 2 ^ 32
    → SetOf Der (KeyIdentifierForm Der) (value_octets SET (flat_map key_identifier_octets ids)) ids
keys-written ids valid short =
    within-written SET (λ c. Items (KeyIdentifierForm Der) c ids)
    (flat_map key_identifier_octets ids) (tag-sound SET refl) short
    (items-written (KeyIdentifierForm Der) key_identifier_octets ids
    (λ i d l. key-written _ (valid i d l)))

-- ---- the content

pub attestation-written : (a : Attestation)
    → AreWritten a.as_resources a.v4_resources a.v6_resources
    → All (λ id. length id ≡ identifier_length) a.subject_keys
    → DigestAlgorithmForm Der digest_algorithm_octets tt → length (attestation_contents a) < 2 ^ 32
    → AttestationForm Der (attestation_octets a) a
attestation-written a w valid algorithm short =
    let keys = value_octets SET (keys_octets a) in
    let named = value_octets SEQUENCE (named_contents a) in
    let digest = value_octets OCTET_STRING a.message_digest in
    let p = length_parts keys (named ++ (digest_algorithm_octets ++ digest)) short in
    let q = length_parts named (digest_algorithm_octets ++ digest) p.1 in
    let r = length_parts digest_algorithm_octets digest q.1 in
    within-written SEQUENCE
    (Parts (OptionalVersion Der
    ∷ (λ o. SetOf Der (KeyIdentifierForm Der) o a.subject_keys)
    ∷ (λ o. Made sets_of (NamedForm Der) o (a.as_resources, (a.v4_resources, a.v6_resources)))
    ∷ (λ o. DigestAlgorithmForm Der o tt)
    ∷ (λ o. OctetString Der MAX_DEPTH o a.message_digest)
    ∷ []))
    (attestation_contents a) (tag-sound SEQUENCE refl) short (
      [],
      attestation_contents a,
      refl,
      (None, refl),
      (
        keys,
        named ++ (digest_algorithm_octets ++ digest),
        refl,
        keys-written a.subject_keys valid (contents_small SET (keys_octets a) p.0),
        (
          named,
          digest_algorithm_octets ++ digest,
          refl,
          sets-written a w (contents_small SEQUENCE (named_contents a) q.0),
          (
            digest_algorithm_octets,
            digest,
            refl,
            algorithm,
            (
              digest,
              [],
              sym (append-nil digest),
              octets-written MAX_DEPTH a.message_digest (omega arith)
                  (contents_small OCTET_STRING a.message_digest r.1),
              refl,
            ),
          ),
        ),
      ),
    )

-- a content whose length is not found is too long
pub too-long : (a b : Attestation) (e : EncodeError) → a ≡ b
    → IsLenOf (Unit {0}) (length (attestation_contents a) < 2 ^ 32) (attestation_octets a) (Err e)
    → length (attestation_contents b) < 2 ^ 32 → ⊥
too-long a b NotDer same h short = h tt
too-long a b TooLong same h short =
    let few : length (attestation_contents a) < 2 ^ 32 =
    subst (λ (t : Attestation). length (attestation_contents t) < 2 ^ 32) (sym same) short in
    h (few, omega (arith, few, length_value_octets_le SEQUENCE (attestation_contents a)))
too-long a b Io same h short = h
too-long a b Memory same h short = h
