-- Signed objects are read exactly: a line for each field.
use Rattle.std.proofs.Common.{ℕ, List, [], ◌∷◌, refl, sym, ap, subst, arith}
use Rattle.std.specs.Prelude.{bytes_eq}
use Rattle.std.proofs.lemmas.Slice.Eq.{bytes_eq-Decides}
use Rattle.rpki_der.specs.declared.mode.Mode.{Mode}
use Rattle.rpki_der.specs.Form.Law.{nothing, is, IsPart}
use Rattle.rpki_der.specs.Form.Parts.{Sequence, Explicit}
use Rattle.rpki_der.specs.Grammar.{ObjectIdentifier}
use Rattle.rpki_der.specs.Numbers.{MAX_DEPTH}
use Rattle.rpki_der.specs.Tags.{SEQUENCE, SET, context}
use Rattle.rpki_der.proofs.Form.Fields.{field, field-on, fixed, done, within}
use Rattle.rpki_der.proofs.Form.Kinds.{this-part, these-part, oid-part, octets-part}
use Rattle.rpki_der.proofs.Form.Words.{part-as, pass, make, keep, in-tag}
use Rattle.rpki_basics.proofs.Algorithms.Parts.{digest-part, cms-part}
use Rattle.rpki_attributes.specs.declared.attribute.OtherTypes.TheVariants.{Refuse}
use Rattle.rpki_attributes.specs.Attrs.{SignedAttributes}
use Rattle.rpki_attributes.proofs.Lists.Exact.{attrs-part}
use Rattle.rpki_certs.proofs.Certs.Exact.{cert-part}
use Rattle.rpki_sigobj.specs.SignerInfo.{SignerInfo, TypedAttrsForm, SignerInfoForm}
use Rattle.rpki_sigobj.specs.SignerInfo.{typed_attrs_at}
use Rattle.rpki_sigobj.specs.SignerInfo.{signer_fields_at, signer_info_at}
use Rattle.rpki_sigobj.specs.Object.{SignedData, ContentForm, SignedDataForm, SignedForm}
use Rattle.rpki_sigobj.specs.Object.{SetOfOne, id_signed_data}
use Rattle.rpki_sigobj.specs.Object.{content_fields_at, content_at, after_content_at}
use Rattle.rpki_sigobj.specs.Object.{signed_fields_at, signed_at, info_fields_at, info_at}
use Rattle.rpki_sigobj.specs.Object.{object_of, object_at}
use Rattle.rpki_extensions.proofs.Values.{key-id-part}

typed-attrs-part : (type : List ℕ)
    → IsPart (is (context 0)) nothing (typed_attrs_at type) (TypedAttrsForm type)
typed-attrs-part type =
    pass (λ (x : SignedAttributes). bytes_eq x.content_type type) (attrs-part Refuse)
    (λ x. bytes_eq-Decides x.content_type type)

pub signer-info-part : (type : List ℕ)
    → IsPart (is SEQUENCE) nothing (signer_info_at type) (SignerInfoForm type)
unfolding signer_fields_at
signer-info-part type = within SEQUENCE (
    fixed (this-part 3 (omega arith)) (
    field (λ s. s.sid) key-id-part (λ sid.
    fixed digest-part (
    field (λ s. s.attributes) (typed-attrs-part type) (λ attributes.
    fixed cms-part (
    field (λ s. s.signature) (octets-part MAX_DEPTH) (λ signature.
    done (record { sid = sid; attributes = attributes; signature = signature })
    (((tt, refl), refl), refl)
    (λ s k i. record { sid = k.0.0.1 i; attributes = k.0.1 i; signature = k.1 i })) refl) refl)
    refl) refl) refl) refl)

content-part : IsPart (is SEQUENCE) nothing content_at ContentForm
unfolding content_fields_at
content-part = within SEQUENCE (
    field (λ c. c.0) oid-part (λ type.
    field (λ c. c.1) (in-tag (context 0) (octets-part MAX_DEPTH)) (λ content.
    done (type, content) ((tt, refl), refl)
    (λ c k i. (k.0.1 i, k.1 i))) refl) refl)

-- the one signer of a content of this type
abbrev OneSigner : List ℕ → Mode → List ℕ → SignerInfo → Type 0
OneSigner type mode octets s = SetOfOne mode (λ i. SignerInfoForm type mode i s) octets

signed-part : IsPart (is SEQUENCE) nothing signed_at SignedDataForm
unfolding signed_fields_at after_content_at
signed-part = within SEQUENCE (
    fixed (this-part 3 (omega arith)) (
    fixed (in-tag SET digest-part) (
    field (λ s. (s.content_type, s.content)) content-part (λ content.
    field (λ s. s.cert) (in-tag (context 0) cert-part) (λ cert.
    field-on OneSigner (λ s. s.content_type) (λ s. s.signer)
    (in-tag SET (signer-info-part content.0)) (λ s k. ap (λ c. c.0) k.0.1) (λ signer.
    done (record {
      content_type = content.0;
      content = content.1;
      cert = cert;
      signer = signer;
    }) (((tt, refl), refl), refl)
    (λ s k i. record {
      content_type = (k.0.0.1 i).0;
      content = (k.0.0.1 i).1;
      cert = k.0.1 i;
      signer = k.1 i;
    })) refl) refl) refl) refl) refl)

-- what is signed, in the signed object
abbrev pub InfoForm : Mode → List ℕ → SignedData → Type 0
InfoForm mode octets s = Sequence mode (
    (λ o. ObjectIdentifier mode o id_signed_data)
    ∷ (λ o. Explicit 0 mode (λ d. SignedDataForm mode d s) o)
    ∷ []) octets

pub info-part : IsPart (is SEQUENCE) nothing info_at InfoForm
unfolding info_fields_at
info-part = within SEQUENCE (
    fixed (these-part id_signed_data (omega arith, omega arith)) (
    field (λ s. s) (in-tag (context 0) signed-part) (λ signed.
    done signed (tt, refl) (λ s k. k.1)) refl) refl)

pub object-part : IsPart (is SEQUENCE) nothing object_at SignedForm
object-part = part-as (make object_of (keep info-part))
    (λ mode o s h. subst (SignedForm mode o) (sym h.2) (h.1.1, h.1.0))
    (λ mode o s h. ((s.signed, s.octets), (h.1, h.0), refl))
