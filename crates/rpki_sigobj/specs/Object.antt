-- Signed objects. The sections are those of RFC 5652, where no other RFC is named.
use Rattle.std.specs.Prelude.{◌≡◌, ℕ, List, [], ◌∷◌, Some, Bool, true, false}
use Rattle.rpki_der.specs.declared.mode.Mode.{Mode}
use Rattle.rpki_der.specs.declared.mode.Mode.TheVariants.{Der, Ber}
use Rattle.rpki_der.specs.Grammar.{Within, Integer, ObjectIdentifier, OctetString}
use Rattle.rpki_der.specs.Form.Made.{made, with_octets}
use Rattle.rpki_der.specs.Form.Parts.{Sequence, Explicit, sequence_at, set_at, context_at}
use Rattle.rpki_der.specs.Numbers.{MAX_DEPTH}
use Rattle.rpki_der.specs.Read.Parse.{Parser, ◌>>=◌, primitive, these, oid_at, octets_at}
use Rattle.rpki_der.specs.Tags.{OBJECT_IDENTIFIER, SET, context}
use Rattle.rpki_basics.specs.Algorithm.{DigestAlgorithmForm, digest_algorithm_at}
use Rattle.rpki_certs.specs.Cert.{Certificate, KeptCertificate, CertForm, cert_at}
use Rattle.rpki_sigobj.specs.SignerInfo.{SignerInfo, SignerInfoForm, cms_version, version_at}
use Rattle.rpki_sigobj.specs.SignerInfo.{signer_info_at}

-- What is signed: the type of the content and its octets, the certificate of the signer, and what
-- the signer says.
pub record SignedData : Type 0 where
  pub content_type : List ℕ
  pub content : List ℕ
  pub cert : Certificate
  pub signer : SignerInfo

-- A signed object: what is signed, and all of its octets.
pub record SignedObject : Type 0 where
  pub signed : SignedData
  pub octets : List ℕ

-- id-signedData, 1.2.840.113549.1.7.2 (5.1)
abbrev pub id_signed_data : List ℕ
id_signed_data = 0x2A ∷ 0x86 ∷ 0x48 ∷ 0x86 ∷ 0xF7 ∷ 0x0D ∷ 0x01 ∷ 0x07 ∷ 0x02 ∷ []

-- a SET OF with one member, which is in G (X.690, section 8.12)
abbrev pub SetOfOne : Mode → (List ℕ → Type 0) → List ℕ → Type 0
SetOfOne mode G octets = Within mode SET G octets

-- [n] IMPLICIT SET OF with one member, which is in G, n below 31 (X.690, section 8.14.3)
abbrev pub ImplicitSetOfOne : ℕ → Mode → (List ℕ → Type 0) → List ℕ → Type 0
ImplicitSetOfOne n mode G octets = Within mode (context n) G octets

-- EncapsulatedContentInfo: SEQUENCE { eContentType, eContent [0] EXPLICIT OCTET STRING } (5.2). The
-- content has to be there (RFC 6488, section 2.1.3.2).
abbrev pub ContentForm : Mode → List ℕ → List ℕ × List ℕ → Type 0
ContentForm mode octets c = Sequence mode (
    (λ o. ObjectIdentifier mode o c.0)
    ∷ (λ o. Explicit 0 mode (λ e. OctetString mode MAX_DEPTH e c.1) o)
    ∷ []) octets

-- SignedData: SEQUENCE { version, digestAlgorithms SET OF, encapContentInfo, certificates [0]
-- IMPLICIT SET OF, signerInfos SET OF } (5.1). There is one algorithm (RFC 6488, section 2.1.2),
-- one certificate (section 2.1.4) and one signer (section 2.1.6), and there are no revocation
-- lists, [1] (section 2.1.5).
abbrev pub SignedDataForm : Mode → List ℕ → SignedData → Type 0
SignedDataForm mode octets s = Sequence mode (
    (λ o. Integer mode o cms_version)
    ∷ SetOfOne mode (λ a. DigestAlgorithmForm mode a tt)
    ∷ (λ o. ContentForm mode o (s.content_type, s.content))
    ∷ (λ o. ImplicitSetOfOne 0 mode (λ c. CertForm mode c s.cert) o)
    ∷ (λ o. SetOfOne mode (λ i. SignerInfoForm s.content_type mode i s.signer) o)
    ∷ []) octets

-- ContentInfo: SEQUENCE { contentType, content [0] EXPLICIT } (3), whose content is signed data
-- (RFC 6488, section 2).
abbrev pub SignedForm : Mode → List ℕ → SignedObject → Type 0
SignedForm mode octets s = (s.octets ≡ octets) × Sequence mode (
    (λ o. ObjectIdentifier mode o id_signed_data)
    ∷ (λ o. Explicit 0 mode (λ d. SignedDataForm mode d s.signed) o)
    ∷ []) octets

-- a signed object whose content has this type
abbrev pub SignedFormOf : List ℕ → Mode → List ℕ → SignedObject → Type 0
SignedFormOf type mode octets s =
    SignedForm mode octets s × (s.signed.content_type ≡ type)

-- The mode that a source is read in: DER where it is read strictly, and else BER.
abbrev pub mode_of : Bool → Mode
mode_of true = Der
mode_of false = Ber

-- a signed object, and the mode that it was read in
pub record KeptObject : Type 0 where
  pub object : SignedObject
  pub mode : Mode

-- The octets that are kept are those of the signed object, in their mode.
abbrev pub IsKept : KeptObject → Type 0
IsKept k = SignedForm k.mode k.object.octets k.object

-- the certificate of a signed object, which was read in the same mode
abbrev pub cert_of : KeptObject → KeptCertificate
cert_of k = record { certificate = k.object.signed.cert; mode = k.mode }

-- what is signed, and the mode that the certificate was read in
pub record KeptData : Type 0 where
  pub signed : SignedData
  pub cert_mode : Mode

-- ---- as functions

-- the type of the content, and its octets
unfoldable pub content_fields_at : Parser (List ℕ × List ℕ)
content_fields_at mode bytes = do
  type ← oid_at mode bytes
  content ← context_at 0 (octets_at MAX_DEPTH) mode type.1
  Some ((type.0, content.0), content.1)

-- the type of the content and its octets, in their SEQUENCE
abbrev pub content_at : Parser (List ℕ × List ℕ)
content_at = sequence_at content_fields_at

-- the certificate and what the signer says, after this content
unfoldable pub after_content_at : List ℕ × List ℕ → Parser SignedData
after_content_at content mode bytes = do
  cert ← context_at 0 cert_at mode bytes
  signer ← set_at (signer_info_at content.0) mode cert.1
  Some (
    record {
      content_type = content.0;
      content = content.1;
      cert = cert.0;
      signer = signer.0;
    },
    signer.1,
  )

-- what stands in the SEQUENCE of what is signed
unfoldable pub signed_fields_at : Parser SignedData
signed_fields_at mode bytes = do
  version ← version_at mode bytes
  algorithm ← set_at digest_algorithm_at mode version.1
  content ← content_at mode algorithm.1
  after_content_at content.0 mode content.1

-- what is signed
abbrev pub signed_at : Parser SignedData
signed_at = sequence_at signed_fields_at

-- what stands in the SEQUENCE of the signed object
unfoldable pub info_fields_at : Parser SignedData
info_fields_at mode bytes = do
  type ← primitive OBJECT_IDENTIFIER (these id_signed_data) mode bytes
  signed ← context_at 0 signed_at mode type.1
  Some (signed.0, signed.1)

-- what is signed, in the signed object
abbrev pub info_at : Parser SignedData
info_at = sequence_at info_fields_at

-- the signed object of what is signed and octets
abbrev pub object_of : SignedData × List ℕ → SignedObject
object_of x = record { signed = x.0; octets = x.1 }

-- a signed object
abbrev pub object_at : Parser SignedObject
object_at = made object_of (with_octets info_at)
