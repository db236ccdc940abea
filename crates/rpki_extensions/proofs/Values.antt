-- The values of extensions are read exactly: a line for each field.
use Rattle.std.proofs.Common.{◌≡◌, ℕ, Bool, true, false, cond, List, length, Some}
use Rattle.std.proofs.Common.{None, refl, subst, eqb, ltb}
use Rattle.std.specs.Prelude.{Decides, ◌&&◌, get_or, ◌/◌, ◌%◌, ◌^◌, ◌-◌}
use Rattle.std.proofs.lemmas.Bool.Decides.{Decides-and, Decides-eqb, Decides-ltb}
use Rattle.rpki_der.specs.Tags.{OCTET_STRING, OCTET_STRING_IN_PIECES, SEQUENCE, BIT_STRING}
use Rattle.rpki_der.specs.Tags.{OBJECT_IDENTIFIER, context_primitive}
use Rattle.rpki_der.specs.Form.Law.{nothing, is, or, IsPart}
use Rattle.rpki_der.proofs.Form.Fields.{field, done, within}
use Rattle.rpki_der.proofs.Form.Kinds.{octets-of-part, contents-part, flag-part, bits-part}
use Rattle.rpki_der.proofs.Form.Kinds.{oid-part}
use Rattle.rpki_der.proofs.Form.Words.{part-as, make-some, pass, list-of}
use Rattle.rpki_der.proofs.Reading.Lengths.{some_is}
use Rattle.rpki_faults.specs.declared.usage.KeyUsage.{KeyUsage}
use Rattle.rpki_faults.specs.declared.usage.KeyUsage.TheVariants.{Ca, Ee}
use Rattle.rpki_resources.specs.Ip.Form.{bit_count}
use Rattle.rpki_extensions.specs.BasicConstraints.{BasicConstraintsForm, basic_fields_at}
use Rattle.rpki_extensions.specs.BasicConstraints.{basic_constraints_at}
use Rattle.rpki_extensions.specs.KeyIdentifiers.{SubjectKeyForm, KeyIdForm, AuthorityKeyForm}
use Rattle.rpki_extensions.specs.KeyIdentifiers.{subject_key_at, key_id_at, authority_fields_at}
use Rattle.rpki_extensions.specs.KeyIdentifiers.{authority_key_at}
use Rattle.rpki_extensions.specs.Purposes.{PurposesForm, purposes_at}
use Rattle.rpki_extensions.specs.Usage.{IsBitSet, SignsCertificates, IsUsage, KeyUsageForm}
use Rattle.rpki_extensions.specs.Usage.{is_bit_set, usage_of, key_usage_at}

-- ---- identifiers of keys

pub subject-key-part : IsPart (or (is OCTET_STRING) (is OCTET_STRING_IN_PIECES)) nothing
    subject_key_at SubjectKeyForm
subject-key-part = octets-of-part 20

pub key-id-part : IsPart (is (context_primitive 0)) nothing key_id_at KeyIdForm
key-id-part = pass (λ (id : List ℕ). eqb (length id) 20) (contents-part (context_primitive 0))
    (λ id. Decides-eqb (length id) 20)

pub authority-key-part : IsPart (is SEQUENCE) nothing authority_key_at AuthorityKeyForm
unfolding authority_fields_at
authority-key-part = within SEQUENCE (
    field (λ id. id) key-id-part (λ id.
    done id (tt, refl) (λ z k. k.1)) refl)

-- ---- basic constraints

pub basic-constraints-part : IsPart (is SEQUENCE) nothing basic_constraints_at BasicConstraintsForm
unfolding basic_fields_at
basic-constraints-part = within SEQUENCE (
    field (λ ca. ca) flag-part (λ ca.
    done ca (tt, refl) (λ z k. k.1)) refl)

-- ---- what a key is for

bit-decides : (n : ℕ) (bits : List ℕ × ℕ) → Decides (is_bit_set n bits) (IsBitSet n bits)
bit-decides n bits =
    Decides-and _ _ (Decides-ltb n (bit_count bits))
    (Decides-eqb (get_or bits.0 (n / 8) 0 / 2 ^ (7 - n % 8) % 2) 1)

usage-sound : (bits : List ℕ × ℕ) (t s : Bool) → Decides t (SignsCertificates bits)
    → Decides s (IsBitSet 0 bits) → (u : KeyUsage)
    → cond t (Some Ca) (cond s (Some Ee) None) ≡ Some u → IsUsage bits u
usage-sound bits true s d e u h = subst (IsUsage bits) (some_is _ _ h) (d.0 refl)
usage-sound bits false true d e u h =
    subst (IsUsage bits) (some_is _ _ h)
    ((λ p. let both : false ≡ true = d.1 p in cc), e.0 refl)
usage-sound bits false false d e u h = absurd cc

usage-complete : (bits : List ℕ × ℕ) (t s : Bool) → Decides t (SignsCertificates bits)
    → Decides s (IsBitSet 0 bits) → (u : KeyUsage) → IsUsage bits u
    → cond t (Some Ca) (cond s (Some Ee) None) ≡ Some u
usage-complete bits t s d e Ca h = rw (d.1 h) refl
usage-complete bits true s d e Ee h = absurd (h.0 (d.0 refl))
usage-complete bits false s d e Ee h = rw (e.1 h.1) refl

pub key-usage-part : IsPart (is BIT_STRING) nothing key_usage_at KeyUsageForm
key-usage-part = part-as (make-some usage_of bits-part)
    (λ mode o u h. (h.0, h.1, usage-sound h.0 _ _ (signs h.0) (bit-decides 0 h.0) u h.2))
    (λ mode o u h. (h.0, h.1, usage-complete h.0 _ _ (signs h.0) (bit-decides 0 h.0) u h.2))
  where
    signs : (bits : List ℕ × ℕ)
        → Decides (is_bit_set 5 bits && is_bit_set 6 bits) (SignsCertificates bits)
    signs bits = Decides-and _ _ (bit-decides 5 bits) (bit-decides 6 bits)

-- ---- purposes

pub purposes-part : IsPart (is SEQUENCE) nothing purposes_at PurposesForm
purposes-part = pass (λ (purposes : List (List ℕ)). ltb 0 (length purposes))
    (list-of OBJECT_IDENTIFIER oid-part SEQUENCE) (λ purposes. Decides-ltb 0 (length purposes))
