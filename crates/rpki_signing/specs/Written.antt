-- The octets of signed objects that are made. The sections are those of RFC 5652.
use Rattle.std.specs.Prelude.{◌≡◌, ℕ, ◌<◌, ◌^◌, List, ◌++◌, length}
use Rattle.rpki_der.specs.declared.mode.Mode.TheVariants.{Der}
use Rattle.rpki_der.specs.Oid.{IsOid}
use Rattle.rpki_der.specs.Tags.{OBJECT_IDENTIFIER, OCTET_STRING, SEQUENCE, SET, context}
use Rattle.rpki_der.specs.Tags.{context_primitive}
use Rattle.rpki_der.specs.Write.Parts.{contents_small, length_parts}
use Rattle.rpki_der.specs.Write.Written.{value_octets, number_octets}
use Rattle.rpki_basics.specs.Algorithm.{digest_algorithm_octets, cms_algorithm_octets}
use Rattle.rpki_basics.specs.declared.signing.SigningError.{SigningError}
use Rattle.rpki_basics.specs.declared.signing.SigningError.TheVariants as error
use Rattle.rpki_attributes.specs.declared.attribute.OtherTypes.TheVariants.{Refuse}
use Rattle.rpki_attributes.specs.Attrs.{SignedAttrsForm}
use Rattle.rpki_attributes.specs.Attrs.Made.{attrs_octets}
use Rattle.rpki_certs.specs.Cert.{CertForm}
use Rattle.rpki_sigobj.specs.Object.{SignedData, SignedObject, id_signed_data}
use Rattle.rpki_sigobj.specs.SignerInfo.{cms_version}

-- What can be written as a signed object: a type, a certificate and attributes in their forms, and
-- a signer with an identifier of 20 octets.
pub record IsDataToWrite (s : SignedData) : Type 0 where
  pub content_type : IsOid s.content_type
  pub cert : CertForm Der s.cert.octets s.cert
  pub sid : length s.signer.sid ≡ 20
  pub attributes : SignedAttrsForm Refuse Der (attrs_octets s.signer.attributes)
      s.signer.attributes
  pub type : s.signer.attributes.content_type ≡ s.content_type

-- ---- the parts: these are unfolded only where they are written

-- the attributes, the algorithm and the signature: the last fields of what a signer says (5.3)
unfoldable pub signed_tail : List ℕ → List ℕ → List ℕ
signed_tail attributes signature =
    value_octets (context 0) attributes
    ++ (cms_algorithm_octets ++ value_octets OCTET_STRING signature)

-- the contents in these fields have fewer than 2^32 octets
unfoldable pub IsShortTail : List ℕ → List ℕ → Type 0
IsShortTail attributes signature =
    (length attributes < 2 ^ 32) × (Unit {0} × (length signature < 2 ^ 32))

-- where these fields have fewer than 2^32 octets, so have the contents in them
pub short_tail : (attributes signature : List ℕ)
    → length (signed_tail attributes signature) < 2 ^ 32 → IsShortTail attributes signature
unfolding signed_tail IsShortTail
short_tail attributes signature h =
    let s : List ℕ = value_octets OCTET_STRING signature in
    let a = length_parts (value_octets (context 0) attributes) (cms_algorithm_octets ++ s) h in
    let b = length_parts cms_algorithm_octets s a.1 in (
      contents_small (context 0) attributes a.0,
      (tt, contents_small OCTET_STRING signature b.1),
    )

-- what a signer with this identifier says, without its header (5.3)
abbrev pub signer_contents : List ℕ → List ℕ → List ℕ → List ℕ
signer_contents sid attributes signature =
    number_octets cms_version ++ (value_octets (context_primitive 0) sid
    ++ (digest_algorithm_octets ++ signed_tail attributes signature))

-- what a signer with this identifier says (5.3)
unfoldable pub signer_octets : List ℕ → List ℕ → List ℕ → List ℕ
signer_octets sid attributes signature =
    value_octets SEQUENCE (signer_contents sid attributes signature)

-- the contents of what a signer says have fewer than 2^32 octets
unfoldable pub IsShortSigner : List ℕ → List ℕ → List ℕ → Type 0
IsShortSigner sid attributes signature =
    length (signer_contents sid attributes signature) < 2 ^ 32

-- where the whole has fewer than 2^32 octets, so have its contents
pub short_signer : (sid attributes signature : List ℕ)
    → length (signer_octets sid attributes signature) < 2 ^ 32
    → IsShortSigner sid attributes signature
unfolding signer_octets IsShortSigner
short_signer sid attributes signature h =
    contents_small SEQUENCE (signer_contents sid attributes signature) h

-- a content with its type, without their header (5.2)
abbrev pub content_contents : List ℕ → List ℕ → List ℕ
content_contents type content =
    value_octets OBJECT_IDENTIFIER type
    ++ value_octets (context 0) (value_octets OCTET_STRING content)

-- a content with its type (5.2)
unfoldable pub content_octets : List ℕ → List ℕ → List ℕ
content_octets type content = value_octets SEQUENCE (content_contents type content)

-- the contents of a content with its type have fewer than 2^32 octets
unfoldable pub IsShortContent : List ℕ → List ℕ → Type 0
IsShortContent type content = length (content_contents type content) < 2 ^ 32

-- where the whole has fewer than 2^32 octets, so have its contents
pub short_content : (type content : List ℕ) → length (content_octets type content) < 2 ^ 32
    → IsShortContent type content
unfolding content_octets IsShortContent
short_content type content h = contents_small SEQUENCE (content_contents type content) h

-- the certificate and what its signer says: the last fields of what is signed (5.1)
unfoldable pub data_tail : List ℕ → List ℕ → List ℕ
data_tail cert signer = value_octets (context 0) cert ++ value_octets SET signer

-- the contents in these fields have fewer than 2^32 octets
unfoldable pub IsShortDataTail : List ℕ → List ℕ → Type 0
IsShortDataTail cert signer = (length cert < 2 ^ 32) × (length signer < 2 ^ 32)

-- where these fields have fewer than 2^32 octets, so have the contents in them
pub short_data_tail : (cert signer : List ℕ) → length (data_tail cert signer) < 2 ^ 32
    → IsShortDataTail cert signer
unfolding data_tail IsShortDataTail
short_data_tail cert signer h =
    let a = length_parts (value_octets (context 0) cert) (value_octets SET signer) h in
    (contents_small (context 0) cert a.0, contents_small SET signer a.1)

-- what is signed, without its header, of a content and of the last fields (5.1)
abbrev pub data_contents : List ℕ → List ℕ → List ℕ
data_contents content tail =
    number_octets cms_version ++ (value_octets SET digest_algorithm_octets ++ (content ++ tail))

-- what is signed, of a content and of the last fields (5.1)
unfoldable pub data_octets : List ℕ → List ℕ → List ℕ
data_octets content tail = value_octets SEQUENCE (data_contents content tail)

-- the contents of what is signed have fewer than 2^32 octets
unfoldable pub IsShortData : List ℕ → List ℕ → Type 0
IsShortData content tail = length (data_contents content tail) < 2 ^ 32

-- where the whole has fewer than 2^32 octets, so have its contents
pub short_data : (content tail : List ℕ) → length (data_octets content tail) < 2 ^ 32
    → IsShortData content tail
unfolding data_octets IsShortData
short_data content tail h = contents_small SEQUENCE (data_contents content tail) h

-- ---- the whole

-- what the signer says (5.3)
abbrev pub signer_of : SignedData → List ℕ
signer_of s = signer_octets s.signer.sid s.signer.attributes.contents s.signer.signature

-- what is signed (5.1)
abbrev pub data_of : SignedData → List ℕ
data_of s =
    data_octets (content_octets s.content_type s.content) (data_tail s.cert.octets (signer_of s))

-- a signed object, without its header (3)
abbrev pub object_contents : SignedData → List ℕ
object_contents s =
    value_octets OBJECT_IDENTIFIER id_signed_data ++ value_octets (context 0) (data_of s)

-- a signed object (3)
abbrev pub object_octets : SignedData → List ℕ
object_octets s = value_octets SEQUENCE (object_contents s)

-- the signed object of what is signed
abbrev pub made_object : SignedData → SignedObject
made_object s = record { signed = s; octets = object_octets s }

-- Why an object is not written: contents of 2^32 octets or more, or memory ran out.
abbrev pub IsNotWritten : {E : Type 0} → SignedData → SigningError E → Type 0
IsNotWritten s error.KeyNotFound = ⊥
IsNotWritten s error.IncompatibleKey = ⊥
IsNotWritten s (error.Signer e) = ⊥
IsNotWritten s error.AttrsTooLong = ⊥
IsNotWritten s error.TooLong = ¬ (length (object_contents s) < 2 ^ 32)
IsNotWritten s (error.Content fault) = ⊥
IsNotWritten s error.NotDer = ⊥
IsNotWritten s error.Memory = Unit {0}
