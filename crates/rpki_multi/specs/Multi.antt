-- Multi-signed objects. The sections are those of RFC 5652, where nothing else is named.
use Rattle.std.specs.Prelude.{◌≡◌, ℕ, List, [], ◌∷◌, Some, All, map}
use Rattle.rpki_der.specs.declared.mode.Mode.{Mode}
use Rattle.rpki_der.specs.Grammar.{Integer, ObjectIdentifier}
use Rattle.rpki_der.specs.Form.Made.{Default, default_at}
use Rattle.rpki_der.specs.Form.Parts.{Sequence, SetOf, Explicit, ImplicitOf, sequence_at, set_at}
use Rattle.rpki_der.specs.Form.Parts.{set_of_at, context_at, items_at}
use Rattle.rpki_der.specs.Numbers.{MAX_DEPTH}
use Rattle.rpki_der.specs.Read.Parse.{Parser, ◌>>=◌, primitive, these, octets_at}
use Rattle.rpki_der.specs.Tags.{OBJECT_IDENTIFIER, SEQUENCE, context}
use Rattle.rpki_basics.specs.Algorithm.{DigestAlgorithmForm, digest_algorithm_at}
use Rattle.rpki_certs.specs.Cert.{Certificate, KeptCertificate, CertForm, cert_at}
use Rattle.rpki_certs.specs.Cert.{IsKept as IsKeptCert}
use Rattle.rpki_crls.specs.Crl.{RevocationList, KeptCrl, CrlForm, crl_at}
use Rattle.rpki_crls.specs.Crl.{IsKept as IsKeptCrl}
use Rattle.rpki_sigobj.specs.Object.{id_signed_data, SetOfOne, ContentForm}
use Rattle.rpki_sigobj.specs.SignerInfo.{SignerInfo, SignerInfoForm, cms_version, version_at}
use Rattle.rpki_sigobj.specs.SignerInfo.{KeptSigner, signer_info_at}
use Rattle.rpki_multi.specs.Signer.{id_rta, IsAttested}

-- What is signed by several: the octets of the content, the certificates and the revocation lists
-- that are carried, and what the signers say.
pub record MultiSigned : Type 0 where
  pub content : List ℕ
  pub certs : List Certificate
  pub crls : List RevocationList
  pub signers : List SignerInfo

-- crls [1] IMPLICIT SET OF CertificateList OPTIONAL (5.1). None is no list.
abbrev pub CrlsForm : Mode → List ℕ → List RevocationList → Type 0
CrlsForm mode = Default [] (ImplicitOf 1 mode (CrlForm mode))

-- SignedData: SEQUENCE { version, digestAlgorithms SET OF, encapContentInfo, certificates [0]
-- IMPLICIT SET OF, crls [1] IMPLICIT SET OF OPTIONAL, signerInfos SET OF } (5.1). There is one
-- algorithm, and the SET of certificates is there. That there may be no certificate, no list in
-- the SET of lists, and no signer is this project's own rule.
abbrev pub MultiDataForm : Mode → List ℕ → MultiSigned → Type 0
MultiDataForm mode octets m = Sequence mode (
    (λ o. Integer mode o cms_version)
    ∷ SetOfOne mode (λ a. DigestAlgorithmForm mode a tt)
    ∷ (λ o. ContentForm mode o (id_rta, m.content))
    ∷ (λ o. ImplicitOf 0 mode (CertForm mode) o m.certs)
    ∷ (λ o. CrlsForm mode o m.crls)
    ∷ (λ o. SetOf mode (SignerInfoForm id_rta mode) o m.signers)
    ∷ []) octets

-- ContentInfo: SEQUENCE { contentType, content [0] EXPLICIT } (3), whose content is signed data
-- (draft-michaelson-rpki-rta, section 3).
abbrev pub MultiForm : Mode → List ℕ → MultiSigned → Type 0
MultiForm mode octets m = Sequence mode (
    (λ o. ObjectIdentifier mode o id_signed_data)
    ∷ (λ o. Explicit 0 mode (λ d. MultiDataForm mode d m) o)
    ∷ []) octets

-- what is signed, and the modes that it and its parts were read in; what was made is DER
pub record KeptMulti : Type 0 where
  pub mode : Mode
  pub content : List ℕ
  pub certs : List KeptCertificate
  pub crls : List KeptCrl
  pub signers : List KeptSigner

-- What holds of the parts: the octets of each certificate and of each revocation list are in the
-- form of its mode, and each signer says what one of an attestation says.
pub record AreKept (k : KeptMulti) : Type 0 where
  pub certs : All IsKeptCert k.certs
  pub crls : All IsKeptCrl k.crls
  pub signers : All IsAttested k.signers

-- what is signed, without the modes
abbrev pub multi_of : KeptMulti → MultiSigned
multi_of k = record {
  content = k.content;
  certs = map (λ c. c.certificate) k.certs;
  crls = map (λ l. l.list) k.crls;
  signers = map (λ s. s.signer) k.signers;
}

-- all certificates, revocation lists and signers were read in this mode
abbrev pub CarriedIn : Mode → KeptMulti → Type 0
CarriedIn mode k = All (λ c. c.mode ≡ mode) k.certs
    × (All (λ l. l.mode ≡ mode) k.crls × All (λ s. s.mode ≡ mode) k.signers)

-- the object was read in this mode, and so were all of them
abbrev pub AreIn : Mode → KeptMulti → Type 0
AreIn mode k = (k.mode ≡ mode) × CarriedIn mode k

-- ---- as functions

-- the octets of a content of this type
unfoldable pub content_fields_at : Parser (List ℕ)
content_fields_at mode bytes = do
  type ← primitive OBJECT_IDENTIFIER (these id_rta) mode bytes
  content ← context_at 0 (octets_at MAX_DEPTH) mode type.1
  Some (content.0, content.1)

-- the octets of a content of this type, in its SEQUENCE
abbrev pub content_at : Parser (List ℕ)
content_at = sequence_at content_fields_at

-- the certificates
abbrev pub certs_at : Parser (List Certificate)
certs_at = context_at 0 (items_at SEQUENCE cert_at)

-- the revocation lists
abbrev pub crls_at : Parser (List RevocationList)
crls_at = default_at [] (context 1) (context_at 1 (items_at SEQUENCE crl_at))

-- the signers
abbrev pub signers_at : Parser (List SignerInfo)
signers_at = set_of_at SEQUENCE (signer_info_at id_rta)

-- what stands in the SEQUENCE of what is signed
unfoldable pub data_fields_at : Parser MultiSigned
data_fields_at mode bytes = do
  version ← version_at mode bytes
  algorithm ← set_at digest_algorithm_at mode version.1
  content ← content_at mode algorithm.1
  certs ← certs_at mode content.1
  crls ← crls_at mode certs.1
  signers ← signers_at mode crls.1
  Some (
    record { content = content.0; certs = certs.0; crls = crls.0; signers = signers.0 },
    signers.1,
  )

-- what is signed
abbrev pub data_at : Parser MultiSigned
data_at = sequence_at data_fields_at

-- what stands in the SEQUENCE of the object
unfoldable pub info_fields_at : Parser MultiSigned
info_fields_at mode bytes = do
  type ← primitive OBJECT_IDENTIFIER (these id_signed_data) mode bytes
  signed ← context_at 0 data_at mode type.1
  Some (signed.0, signed.1)

-- a multi-signed object
abbrev pub multi_at : Parser MultiSigned
multi_at = sequence_at info_fields_at
