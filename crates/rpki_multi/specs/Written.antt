-- The octets that multi-signed objects are written as. The sections are those of RFC 5652.
use Rattle.std.specs.Prelude.{ℕ, ◌<◌, ◌^◌, List, [], ◌∷◌, ◌++◌, length}
use Rattle.std.specs.List.{flat_map}
use Rattle.rpki_der.specs.Tags.{OBJECT_IDENTIFIER, OCTET_STRING, SEQUENCE, SET, context}
use Rattle.rpki_der.specs.Tags.{context_primitive}
use Rattle.rpki_der.specs.Write.Parts.{contents_small, length_parts}
use Rattle.rpki_der.specs.Write.Written.{value_octets, number_octets}
use Rattle.rpki_basics.specs.Algorithm.{digest_algorithm_octets, cms_algorithm_octets}
use Rattle.rpki_attributes.specs.Attrs.Made.{attrs_octets}
use Rattle.rpki_certs.specs.Cert.{KeptCertificate}
use Rattle.rpki_crls.specs.Crl.{KeptCrl}
use Rattle.rpki_sigobj.specs.Object.{id_signed_data}
use Rattle.rpki_sigobj.specs.SignerInfo.{SignerInfo, KeptSigner, cms_version}
use Rattle.rpki_multi.specs.Multi.{KeptMulti}
use Rattle.rpki_multi.specs.Signer.{id_rta}

-- ---- what a signer says

-- what a signer says, without its header (5.3)
abbrev pub signer_contents : SignerInfo → List ℕ
signer_contents s =
    number_octets cms_version ++ (value_octets (context_primitive 0) s.sid
    ++ (digest_algorithm_octets ++ (attrs_octets s.attributes
    ++ (cms_algorithm_octets ++ value_octets OCTET_STRING s.signature))))

-- what a signer says (5.3)
unfoldable pub signer_octets : SignerInfo → List ℕ
signer_octets s = value_octets SEQUENCE (signer_contents s)

-- the contents of what a signer says have fewer than 2^32 octets
unfoldable pub IsShortSigner : SignerInfo → Type 0
IsShortSigner s = length (signer_contents s) < 2 ^ 32

-- where the whole has fewer than 2^32 octets, so have its contents
pub short_signer : (s : SignerInfo) → length (signer_octets s) < 2 ^ 32 → IsShortSigner s
unfolding signer_octets IsShortSigner
short_signer s h = contents_small SEQUENCE (signer_contents s) h

-- ---- the content

-- the content and its type, without their header (5.2)
abbrev pub content_contents : List ℕ → List ℕ
content_contents content =
    value_octets OBJECT_IDENTIFIER id_rta
    ++ value_octets (context 0) (value_octets OCTET_STRING content)

-- a content with its type (5.2)
unfoldable pub content_octets : List ℕ → List ℕ
content_octets content = value_octets SEQUENCE (content_contents content)

-- the contents of a content with its type have fewer than 2^32 octets
unfoldable pub IsShortContent : List ℕ → Type 0
IsShortContent content = length (content_contents content) < 2 ^ 32

-- where the whole has fewer than 2^32 octets, so have its contents
pub short_content : (content : List ℕ) → length (content_octets content) < 2 ^ 32
    → IsShortContent content
unfolding content_octets IsShortContent
short_content content h = contents_small SEQUENCE (content_contents content) h

-- ---- the lists

-- the certificates, one after the other
abbrev pub certs_contents : List KeptCertificate → List ℕ
certs_contents certs = flat_map (λ c. c.certificate.octets) certs

-- the revocation lists, one after the other
abbrev pub crls_contents : List KeptCrl → List ℕ
crls_contents crls = flat_map (λ l. l.list.octets) crls

-- crls [1]: nothing where there is no list (5.1)
abbrev pub crls_octets : List KeptCrl → List ℕ
crls_octets [] = []
crls_octets (l ∷ crls) = value_octets (context 1) (crls_contents (l ∷ crls))

-- the contents of the set of revocation lists, where there is a list, have fewer than 2^32 octets
abbrev pub AreShortCrls : List KeptCrl → Type 0
AreShortCrls [] = Unit {0}
AreShortCrls (l ∷ crls) = length (crls_contents (l ∷ crls)) < 2 ^ 32

-- where the whole has fewer than 2^32 octets, so have its contents
pub short_crls : (crls : List KeptCrl) → length (crls_octets crls) < 2 ^ 32 → AreShortCrls crls
short_crls [] h = tt
short_crls (l ∷ crls) h = contents_small (context 1) (crls_contents (l ∷ crls)) h

-- the signers, one after the other
abbrev pub signers_contents : List KeptSigner → List ℕ
signers_contents signers = flat_map (λ s. signer_octets s.signer) signers

-- the certificates, the revocation lists and the signers: the last fields of what is signed (5.1)
unfoldable pub carried_octets : KeptMulti → List ℕ
carried_octets m =
    value_octets (context 0) (certs_contents m.certs)
    ++ (crls_octets m.crls ++ value_octets SET (signers_contents m.signers))

-- the contents in these fields have fewer than 2^32 octets
unfoldable pub AreShortCarried : KeptMulti → Type 0
AreShortCarried m =
    (length (certs_contents m.certs) < 2 ^ 32)
    × (AreShortCrls m.crls × (length (signers_contents m.signers) < 2 ^ 32))

-- where these fields have fewer than 2^32 octets, so have the contents in them
pub short_carried : (m : KeptMulti) → length (carried_octets m) < 2 ^ 32 → AreShortCarried m
unfolding carried_octets AreShortCarried
short_carried m h =
    let certs : List ℕ = value_octets (context 0) (certs_contents m.certs) in
    let signers : List ℕ = value_octets SET (signers_contents m.signers) in
    let a = length_parts certs (crls_octets m.crls ++ signers) h in
    let b = length_parts (crls_octets m.crls) signers a.1 in (
      contents_small (context 0) (certs_contents m.certs) a.0,
      (short_crls m.crls b.0, contents_small SET (signers_contents m.signers) b.1),
    )

-- ---- the whole

-- what is signed, without its header (5.1)
abbrev pub data_contents : KeptMulti → List ℕ
data_contents m =
    number_octets cms_version ++ (value_octets SET digest_algorithm_octets
    ++ (content_octets m.content ++ carried_octets m))

-- what is signed (5.1)
unfoldable pub data_octets : KeptMulti → List ℕ
data_octets m = value_octets SEQUENCE (data_contents m)

-- the contents of what is signed have fewer than 2^32 octets
unfoldable pub IsShortData : KeptMulti → Type 0
IsShortData m = length (data_contents m) < 2 ^ 32

-- where the whole has fewer than 2^32 octets, so have its contents
pub short_data : (m : KeptMulti) → length (data_octets m) < 2 ^ 32 → IsShortData m
unfolding data_octets IsShortData
short_data m h = contents_small SEQUENCE (data_contents m) h

-- a multi-signed object, without its header (3)
abbrev pub multi_contents : KeptMulti → List ℕ
multi_contents m =
    value_octets OBJECT_IDENTIFIER id_signed_data ++ value_octets (context 0) (data_octets m)

-- a multi-signed object (3)
abbrev pub multi_octets : KeptMulti → List ℕ
multi_octets m = value_octets SEQUENCE (multi_contents m)
