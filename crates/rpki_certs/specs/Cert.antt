-- Certificates. The sections are those of RFC 5280, where no other RFC is named.
use Rattle.std.specs.Prelude.{◌≡◌, ℕ, List, [], ◌∷◌, Some, IfSome}
use Rattle.rpki_der.specs.declared.mode.Mode.{Mode}
use Rattle.rpki_der.specs.Grammar.{Integer, OctetsInBits}
use Rattle.rpki_der.specs.Form.Made.{WithOctets, made, with_octets}
use Rattle.rpki_der.specs.Form.Parts.{Sequence, Explicit, sequence_at, context_at}
use Rattle.rpki_der.specs.Read.Parse.{Parser, ◌>>=◌, primitive, this, u160_at, octets_in_bits_at}
use Rattle.rpki_der.specs.Tags.{INTEGER}
use Rattle.rpki_basics.specs.Algorithm.{CertAlgorithmForm, cert_algorithm_at}
use Rattle.rpki_basics.specs.Key.{KeyForm, key_at}
use Rattle.rpki_basics.specs.Name.{NameForm, name_at}
use Rattle.rpki_basics.specs.Moment.{Period}
use Rattle.rpki_basics.specs.Serial.{SerialForm}
use Rattle.rpki_basics.specs.Time.Form.{TimeForm}
use Rattle.rpki_basics.specs.Time.Read.{time_at}
use Rattle.rpki_extensions.specs.declared.extensions.Extensions.{Extensions}
use Rattle.rpki_extensions.specs.Extensions.{ExtensionsForm, extensions_at}

-- What is signed of a certificate, its TBSCertificate: names as their octets, the key as its bits.
pub record Tbs : Type 0 where
  pub serial_number : ℕ
  pub issuer : List ℕ
  pub validity : Period
  pub subject : List ℕ
  pub key : List ℕ
  pub extensions : Extensions

-- A certificate: what is signed of it and its octets, its signature, and all of its octets.
pub record Certificate : Type 0 where
  pub tbs : Tbs
  pub signed : List ℕ
  pub signature : List ℕ
  pub octets : List ℕ

-- the number of the version v3 (4.1.2.1)
abbrev pub v3 : ℕ
v3 = 2

-- Validity: SEQUENCE { notBefore Time, notAfter Time } (4.1.2.5). That notBefore may come after
-- notAfter, where no moment is valid, is this project's own rule.
abbrev pub ValidityForm : Mode → List ℕ → Period → Type 0
ValidityForm mode octets p = Sequence mode (
    (λ o. TimeForm mode o p.not_before)
    ∷ (λ o. TimeForm mode o p.not_after)
    ∷ []) octets

-- TBSCertificate: SEQUENCE { version [0], serialNumber, signature, issuer, validity, subject,
-- subjectPublicKeyInfo, extensions [3] } (4.1). The version is v3, and the extensions have to be
-- there; unique identifiers, [1] and [2], are not allowed (RFC 6487, section 4).
abbrev pub TbsForm : Mode → List ℕ → Tbs → Type 0
TbsForm mode octets t = Sequence mode (
    Explicit 0 mode (λ v. Integer mode v v3)
    ∷ (λ o. SerialForm mode o t.serial_number)
    ∷ (λ o. CertAlgorithmForm mode o tt)
    ∷ (λ o. NameForm mode o t.issuer)
    ∷ (λ o. ValidityForm mode o t.validity)
    ∷ (λ o. NameForm mode o t.subject)
    ∷ (λ o. KeyForm mode o t.key)
    ∷ (λ o. Explicit 3 mode (λ e. ExtensionsForm mode e t.extensions) o)
    ∷ []) octets

-- Certificate: SEQUENCE { tbsCertificate, signatureAlgorithm, signatureValue BIT STRING } (4.1).
-- What is signed are the octets of the first, as they stand there. That of the two identifiers of
-- the algorithm one may have a NULL and the other none, where 4.1.1.2 has them the same, is this
-- project's own rule.
abbrev pub CertForm : Mode → List ℕ → Certificate → Type 0
CertForm mode octets c = (c.octets ≡ octets) × Sequence mode (
    (λ o. WithOctets (TbsForm mode) o c.tbs c.signed)
    ∷ (λ o. CertAlgorithmForm mode o tt)
    ∷ (λ o. OctetsInBits mode o c.signature)
    ∷ []) octets

-- The certificate is self-signed by its form: the identifier of the issuer's key is missing, or
-- that of its own key (RFC 6487, section 4.8.3).
abbrev pub IsSelfSigned : Tbs → Type 0
IsSelfSigned t = IfSome t.extensions.key.authority_key (λ id. id ≡ t.extensions.key.subject_key)

-- the modes that the names of the issuer and of the subject were read in
pub record NameModes : Type 0 where
  pub issuer : Mode
  pub subject : Mode

-- both names were read in this mode
abbrev pub both_in : Mode → NameModes
both_in mode = record { issuer = mode; subject = mode }

-- what is signed, and the modes that its names were read in
pub record KeptTbs : Type 0 where
  pub tbs : Tbs
  pub names : NameModes

-- a certificate, and the mode that it was read in
pub record KeptCertificate : Type 0 where
  pub certificate : Certificate
  pub mode : Mode

-- The octets that are kept are those of the certificate, in their mode.
abbrev pub IsKept : KeptCertificate → Type 0
IsKept k = CertForm k.mode k.certificate.octets k.certificate

-- ---- as functions

-- the two ends
unfoldable pub validity_fields_at : Parser Period
validity_fields_at mode bytes = do
  not_before ← time_at mode bytes
  not_after ← time_at mode not_before.1
  Some (record { not_before = not_before.0; not_after = not_after.0 }, not_after.1)

-- the validity
abbrev pub validity_at : Parser Period
validity_at = sequence_at validity_fields_at

-- the fields that are signed
unfoldable pub tbs_fields_at : Parser Tbs
tbs_fields_at mode bytes = do
  version ← context_at 0 (primitive INTEGER (this v3)) mode bytes
  serial ← u160_at mode version.1
  algorithm ← cert_algorithm_at mode serial.1
  issuer ← name_at mode algorithm.1
  validity ← validity_at mode issuer.1
  subject ← name_at mode validity.1
  key ← key_at mode subject.1
  extensions ← context_at 3 extensions_at mode key.1
  Some (
    record {
      serial_number = serial.0;
      issuer = issuer.0;
      validity = validity.0;
      subject = subject.0;
      key = key.0;
      extensions = extensions.0;
    },
    extensions.1,
  )

-- what is signed
abbrev pub tbs_at : Parser Tbs
tbs_at = sequence_at tbs_fields_at

-- what stands in a certificate
pub record Contents : Type 0 where
  pub tbs : Tbs
  pub signed : List ℕ
  pub signature : List ℕ

-- what stands in a certificate, and the modes that its names were read in
pub record KeptContents : Type 0 where
  pub contents : Contents
  pub names : NameModes

-- what stands in the SEQUENCE
unfoldable pub contents_at : Parser Contents
contents_at mode bytes = do
  tbs ← with_octets tbs_at mode bytes
  algorithm ← cert_algorithm_at mode tbs.1
  signature ← octets_in_bits_at mode algorithm.1
  Some (
    record { tbs = tbs.0.0; signed = tbs.0.1; signature = signature.0 },
    signature.1,
  )

-- the certificate of contents and octets
abbrev pub certificate_of : Contents × List ℕ → Certificate
certificate_of c = record {
  tbs = c.0.tbs;
  signed = c.0.signed;
  signature = c.0.signature;
  octets = c.1;
}

-- a certificate
abbrev pub cert_at : Parser Certificate
cert_at = made certificate_of (with_octets (sequence_at contents_at))
