-- The octets of certificates that are made. The sections are those of RFC 5280.
use Rattle.std.specs.Prelude.{◌≡◌, ℕ, ◌<◌, ◌^◌, List, ◌++◌, All, length, IfSome, false}
use Rattle.std.specs.List.{flat_map}
use Rattle.rpki_der.specs.declared.mode.Mode.TheVariants.{Der}
use Rattle.rpki_der.specs.Tags.{INTEGER, SEQUENCE, context}
use Rattle.rpki_der.specs.Write.Written.{value_octets, number_octets}
use Rattle.rpki_der.specs.Write.Written.{integer_contents}
use Rattle.rpki_der.specs.Write.Parts.{contents_small, length_parts}
use Rattle.rpki_basics.specs.Algorithm.{cert_algorithm_octets}
use Rattle.rpki_basics.specs.Key.{key_contents, key_octets}
use Rattle.rpki_basics.specs.Name.{IsName}
use Rattle.rpki_basics.specs.Moment.{Moment, Period, IsMoment}
use Rattle.rpki_basics.specs.Serial.{digits, serial_octets}
use Rattle.rpki_basics.specs.Time.Form.{time_octets}
use Rattle.rpki_basics.specs.Uri.{IsRsync, IsHttps}
use Rattle.rpki_resources.specs.declared.block.Block.{Block}
use Rattle.rpki_resources.specs.declared.family.AddressFamily.{AddressFamily}
use Rattle.rpki_resources.specs.declared.family.AddressFamily.TheVariants.{Ipv4, Ipv6}
use Rattle.rpki_resources.specs.declared.resources.Claim.{Claim}
use Rattle.rpki_resources.specs.declared.resources.Claim.TheVariants.{Missing, Inherit, Explicit}
use Rattle.rpki_resources.specs.As.Form.{AsForm}
use Rattle.rpki_resources.specs.As.Written.{as_octets}
use Rattle.rpki_resources.specs.Family.{IsWithin}
use Rattle.rpki_resources.specs.Ip.Form.{IpForm}
use Rattle.rpki_resources.specs.Ip.Written.{ip_octets}
use Rattle.rpki_extensions.specs.declared.access.SubjectAccess.{SubjectAccess}
use Rattle.rpki_extensions.specs.declared.claims.Claims.{Claims}
use Rattle.rpki_extensions.specs.declared.extensions.Extensions.{Extensions}
use Rattle.rpki_extensions.specs.declared.keys.KeyFacts.{KeyFacts}
use Rattle.rpki_extensions.specs.declared.locations.Locations.{Locations}
use Rattle.rpki_certs.specs.Cert.{Tbs, Certificate, v3}
use Rattle.rpki_issued.specs.Extensions.{extensions_octets}
use Rattle.rpki_issued.specs.Signing.{signed_contents}

-- ---- what can be written

-- Identifiers of keys have 20 octets, and no extended key usage is said.
pub record AreKeyFactsToWrite (x : KeyFacts) : Type 0 where
  pub subject_key : length x.subject_key ≡ 20
  pub authority_key : IfSome x.authority_key (λ id. length id ≡ 20)
  pub no_purposes : x.has_purposes ≡ false

-- What is said to be had from a subject are URIs.
pub record IsAccessToWrite (x : SubjectAccess) : Type 0 where
  pub ca_repository : IfSome x.ca_repository IsRsync
  pub rpki_manifest : IfSome x.rpki_manifest IsRsync
  pub signed_object : IfSome x.signed_object IsRsync
  pub rpki_notify : IfSome x.rpki_notify IsHttps

-- Where something is said to lie are URIs.
pub record AreLocationsToWrite (x : Locations) : Type 0 where
  pub crl : IfSome x.crl IsRsync
  pub ca_issuer : IfSome x.ca_issuer IsRsync
  pub subject : IsAccessToWrite x.subject

-- P holds of the set that is claimed, if one is.
abbrev pub OfNumbers : (List (Block ℕ) → Type 0) → Claim (List (Block ℕ)) → Type 0
OfNumbers P Missing = Unit {0}
OfNumbers P Inherit = Unit {0}
OfNumbers P (Explicit set) = P set

-- A set of AS numbers is written in its form, where its contents are short.
abbrev pub IsAsWritten : List (Block ℕ) → Type 0
IsAsWritten set =
    length (flat_map as_octets set) < 2 ^ 32
    → AsForm Der (value_octets SEQUENCE (flat_map as_octets set)) set

-- A set of addresses is written in the form of its family, where its contents are short.
abbrev pub IsIpWritten : AddressFamily → List (Block ℕ) → Type 0
IsIpWritten family set =
    length (flat_map ip_octets set) < 2 ^ 32
    → IpForm family Der (value_octets SEQUENCE (flat_map ip_octets set)) set

-- The sets that are claimed are written in their forms.
pub record AreClaimsToWrite (x : Claims) : Type 0 where
  pub as_numbers : OfNumbers IsAsWritten x.as_numbers
  pub v4 : OfNumbers (IsIpWritten Ipv4) x.addresses.v4
  pub v6 : OfNumbers (IsIpWritten Ipv6) x.addresses.v6

-- What can be said by extensions.
pub record AreToWrite (x : Extensions) : Type 0 where
  pub key : AreKeyFactsToWrite x.key
  pub locations : AreLocationsToWrite x.locations
  pub claims : AreClaimsToWrite x.claims

-- What can be signed as a certificate.
pub record IsTbsToWrite (t : Tbs) : Type 0 where
  pub serial_number : t.serial_number < 2 ^ 160
  pub issuer : IsName Der t.issuer
  pub not_before : IsMoment t.validity.not_before
  pub not_after : IsMoment t.validity.not_after
  pub subject : IsName Der t.subject
  pub extensions : AreToWrite t.extensions

-- The blocks that are claimed of IPv4 are of this family: no other condition is put on what a
-- certificate claims.
abbrev pub ClaimsIpv4 : Claims → Type 0
ClaimsIpv4 x = OfNumbers (All (IsWithin Ipv4)) x.addresses.v4

-- ---- what is written

-- the version (4.1.2.1)
abbrev pub version_octets : List ℕ
version_octets = value_octets (context 0) (number_octets v3)

-- the validity (4.1.2.5)
abbrev pub validity_octets : Period → List ℕ
validity_octets p = value_octets SEQUENCE (time_octets p.not_before ++ time_octets p.not_after)

-- what is signed, without its header (4.1)
abbrev pub tbs_contents : Tbs → List ℕ
tbs_contents t =
    version_octets ++ (serial_octets t.serial_number ++ (cert_algorithm_octets ++ (t.issuer
    ++ (validity_octets t.validity ++ (t.subject ++ (key_octets t.key
    ++ value_octets (context 3) (extensions_octets t.extensions)))))))

-- what is signed (4.1)
abbrev pub tbs_octets : Tbs → List ℕ
tbs_octets t = value_octets SEQUENCE (tbs_contents t)

-- ---- what is signed, in parts: these are unfolded only where they are written

-- the fields up to the issuer (4.1)
unfoldable pub issuer_fields_octets : ℕ → List ℕ → List ℕ
issuer_fields_octets serial_number issuer =
    version_octets ++ (serial_octets serial_number ++ (cert_algorithm_octets ++ issuer))

-- the validity, of its two ends (4.1.2.5)
unfoldable pub validity_field_octets : Moment → Moment → List ℕ
validity_field_octets before after = value_octets SEQUENCE (time_octets before ++ time_octets after)

-- the fields of the key and of the extensions (4.1)
unfoldable pub key_fields_octets : List ℕ → Extensions → List ℕ
key_fields_octets key x = key_octets key ++ value_octets (context 3) (extensions_octets x)

-- the fields from the validity on (4.1)
unfoldable pub subject_fields_octets : Period → List ℕ → List ℕ → Extensions → List ℕ
subject_fields_octets p subject key x =
    validity_field_octets p.not_before p.not_after ++ (subject ++ key_fields_octets key x)

-- the contents in the fields up to the issuer have fewer than 2^32 octets
unfoldable pub AreShortIssuerFields : ℕ → Type 0
AreShortIssuerFields serial_number =
    (length (number_octets v3) < 2 ^ 32)
    × ((length (integer_contents (digits 20 serial_number)) < 2 ^ 32) × (Unit {0} × Unit {0}))

-- where the fields up to the issuer have fewer than 2^32 octets, so have the contents in them
pub short_issuer_fields : (serial_number : ℕ) (issuer : List ℕ)
    → length (issuer_fields_octets serial_number issuer) < 2 ^ 32
    → AreShortIssuerFields serial_number
unfolding issuer_fields_octets AreShortIssuerFields
short_issuer_fields serial_number issuer h =
    let r : List ℕ = cert_algorithm_octets ++ issuer in
    let s = length_parts version_octets (serial_octets serial_number ++ r) h in
    let t = length_parts (serial_octets serial_number) r s.1 in (
      contents_small (context 0) (number_octets v3) s.0,
      (contents_small INTEGER (integer_contents (digits 20 serial_number)) t.0, (tt, tt)),
    )

-- both times have fewer than 2^32 octets
unfoldable pub IsShortValidity : Moment → Moment → Type 0
IsShortValidity before after = length (time_octets before ++ time_octets after) < 2 ^ 32

-- where a validity has fewer than 2^32 octets, so have its times
pub short_validity : (before after : Moment) → length (validity_field_octets before after) < 2 ^ 32
    → IsShortValidity before after
unfolding validity_field_octets IsShortValidity
short_validity before after h =
    contents_small SEQUENCE (time_octets before ++ time_octets after) h

-- the contents in the fields of the key and of the extensions have fewer than 2^32 octets
unfoldable pub AreShortKeyFields : List ℕ → Extensions → Type 0
AreShortKeyFields key x =
    (length (key_contents key) < 2 ^ 32) × (length (extensions_octets x) < 2 ^ 32)

-- where both have fewer than 2^32 octets, so have the contents in them
pub short_key_fields : (key : List ℕ) (x : Extensions) → length (key_fields_octets key x) < 2 ^ 32
    → AreShortKeyFields key x
unfolding key_fields_octets AreShortKeyFields
short_key_fields key x h =
    let s = length_parts (key_octets key) (value_octets (context 3) (extensions_octets x)) h in (
      contents_small SEQUENCE (key_contents key) s.0,
      contents_small (context 3) (extensions_octets x) s.1,
    )

-- the contents in the fields from the validity on have fewer than 2^32 octets
unfoldable pub AreShortSubjectFields : Period → List ℕ → Extensions → Type 0
AreShortSubjectFields p key x =
    IsShortValidity p.not_before p.not_after × (Unit {0} × AreShortKeyFields key x)

-- where the fields from the validity on have fewer than 2^32 octets, so have the contents in them
pub short_subject_fields : (p : Period) (subject key : List ℕ) (x : Extensions)
    → length (subject_fields_octets p subject key x) < 2 ^ 32 → AreShortSubjectFields p key x
unfolding subject_fields_octets AreShortSubjectFields
short_subject_fields p subject key x h =
    let w : List ℕ = validity_field_octets p.not_before p.not_after in
    let s = length_parts w (subject ++ key_fields_octets key x) h in
    let t = length_parts subject (key_fields_octets key x) s.1 in
    (short_validity p.not_before p.not_after s.0, (tt, short_key_fields key x t.1))

-- a certificate with this signature, without its header (4.1)
abbrev pub cert_contents : Tbs → List ℕ → List ℕ
cert_contents t signature = signed_contents (tbs_octets t) signature

-- a certificate with this signature (4.1)
abbrev pub cert_octets : Tbs → List ℕ → List ℕ
cert_octets t signature = value_octets SEQUENCE (cert_contents t signature)

-- the certificate that is made of what is signed, and the signature
abbrev pub made_certificate : Tbs → List ℕ → Certificate
made_certificate t s = record {
  tbs = t;
  signed = tbs_octets t;
  signature = s;
  octets = cert_octets t s;
}
