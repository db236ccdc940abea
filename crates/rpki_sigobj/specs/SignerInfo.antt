-- What a signer says of a content. The sections are those of RFC 5652, where no other RFC is named.
use Rattle.std.specs.Prelude.{◌≡◌, ℕ, List, [], ◌∷◌, Some}
use Rattle.std.specs.Str.{bytes_eq}
use Rattle.rpki_der.specs.declared.mode.Mode.{Mode}
use Rattle.rpki_der.specs.Grammar.{Integer, OctetString}
use Rattle.rpki_der.specs.Form.Parts.{Sequence, sequence_at}
use Rattle.rpki_der.specs.Numbers.{MAX_DEPTH}
use Rattle.rpki_der.specs.Read.Parse.{Parser, ◌>>=◌, primitive, this, octets_at, tested}
use Rattle.rpki_der.specs.Tags.{INTEGER}
use Rattle.rpki_basics.specs.Algorithm.{DigestAlgorithmForm, CmsAlgorithmForm}
use Rattle.rpki_basics.specs.Algorithm.{digest_algorithm_at, cms_algorithm_at}
use Rattle.rpki_attributes.specs.declared.attribute.OtherTypes.TheVariants.{Refuse}
use Rattle.rpki_attributes.specs.Attrs.{SignedAttributes, SignedAttrsForm}
use Rattle.rpki_attributes.specs.Attrs.Read.{attrs_at}
use Rattle.rpki_extensions.specs.KeyIdentifiers.{KeyIdForm, key_id_at}

-- What a signer says: the identifier of its key, the attributes that it signed, and its signature.
pub record SignerInfo : Type 0 where
  pub sid : List ℕ
  pub attributes : SignedAttributes
  pub signature : List ℕ

-- what a signer says, and the mode that its attributes were read in
pub record KeptSigner : Type 0 where
  pub signer : SignerInfo
  pub mode : Mode

-- the version of what is signed and of what its signer says (RFC 6488, sections 2.1.1 and 2.1.6.1)
abbrev pub cms_version : ℕ
cms_version = 3

-- signedAttrs [0] (5.3), whose content type is that of the content (11.1; RFC 6488, section
-- 2.1.6.4.1). Each attribute but the content type, the message digest and the signing time is
-- refused (RFC 6488, section 2.1.6.4, as RFC 9589 updates it).
abbrev pub TypedAttrsForm : List ℕ → Mode → List ℕ → SignedAttributes → Type 0
TypedAttrsForm type mode octets x = SignedAttrsForm Refuse mode octets x × (x.content_type ≡ type)

-- SignerInfo: SEQUENCE { version, sid, digestAlgorithm, signedAttrs [0], signatureAlgorithm,
-- signature } (5.3). The sid is a subjectKeyIdentifier [0] (RFC 6488, section 2.1.6.2), and no
-- attributes that are not signed, [1], are there (RFC 6488, section 2.1.6.7).
abbrev pub SignerInfoForm : List ℕ → Mode → List ℕ → SignerInfo → Type 0
SignerInfoForm type mode octets s = Sequence mode (
    (λ o. Integer mode o cms_version)
    ∷ (λ o. KeyIdForm mode o s.sid)
    ∷ (λ o. DigestAlgorithmForm mode o tt)
    ∷ (λ o. TypedAttrsForm type mode o s.attributes)
    ∷ (λ o. CmsAlgorithmForm mode o tt)
    ∷ (λ o. OctetString mode MAX_DEPTH o s.signature)
    ∷ []) octets

-- ---- as functions

-- the version
abbrev pub version_at : Parser (Unit {0})
version_at = primitive INTEGER (this cms_version)

-- the signed attributes of a content of this type
abbrev pub typed_attrs_at : List ℕ → Parser SignedAttributes
typed_attrs_at type = tested (λ x. bytes_eq x.content_type type) (attrs_at Refuse)

-- what stands in the SEQUENCE
unfoldable pub signer_fields_at : List ℕ → Parser SignerInfo
signer_fields_at type mode bytes = do
  version ← version_at mode bytes
  sid ← key_id_at mode version.1
  digest ← digest_algorithm_at mode sid.1
  attributes ← typed_attrs_at type mode digest.1
  algorithm ← cms_algorithm_at mode attributes.1
  signature ← octets_at MAX_DEPTH mode algorithm.1
  Some (
    record { sid = sid.0; attributes = attributes.0; signature = signature.0 },
    signature.1,
  )

-- what a signer says of a content of this type
abbrev pub signer_info_at : List ℕ → Parser SignerInfo
signer_info_at type = sequence_at (signer_fields_at type)
