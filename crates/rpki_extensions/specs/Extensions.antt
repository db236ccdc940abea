-- The extensions of a resource certificate. The sections are those of RFC 6487, where no other RFC
-- is named.
use Rattle.std.specs.Prelude.{◌≡◌, ℕ, List, [], ◌∷◌, Bool, true, false, ◌||◌, All}
use Rattle.std.specs.Prelude.{Option, None, Some, unwrap_or, if◌then◌else◌}
use Rattle.rpki_der.specs.declared.mode.Mode.{Mode}
use Rattle.rpki_der.specs.Form.Keyed.{has_key, must}
use Rattle.rpki_der.specs.Form.Made.{Understood, Made, made, partly}
use Rattle.rpki_der.specs.Form.Parts.{SequenceOf, sequence_at}
use Rattle.rpki_der.specs.Read.Parse.{Parser, ◌>>=◌}
use Rattle.rpki_faults.specs.declared.overclaim.Overclaim.{Overclaim}
use Rattle.rpki_faults.specs.declared.overclaim.Overclaim.TheVariants.{Refuse, Trim}
use Rattle.rpki_resources.specs.declared.resources.Claim.TheVariants.{Missing}
use Rattle.rpki_resources.specs.Claim.Form.{AsIdentifiersForm}
use Rattle.rpki_resources.specs.Claim.Read.{as_identifiers_at}
use Rattle.rpki_extensions.specs.declared.access.SubjectAccess.{SubjectAccess}
use Rattle.rpki_extensions.specs.declared.addresses.IpClaims.{IpClaims}
use Rattle.rpki_extensions.specs.declared.claims.Claims.{Claims}
use Rattle.rpki_extensions.specs.declared.extension.Extension.{Extension}
use Rattle.rpki_extensions.specs.declared.extensions.Extensions.{Extensions}
use Rattle.rpki_extensions.specs.declared.keys.KeyFacts.{KeyFacts}
use Rattle.rpki_extensions.specs.declared.locations.Locations.{Locations}
use Rattle.rpki_extensions.specs.Access.{AuthorityAccessForm, SubjectAccessForm}
use Rattle.rpki_extensions.specs.Access.{authority_access_at, subject_access_at}
use Rattle.rpki_extensions.specs.Addresses.{IpClaimsForm, ip_claims_at}
use Rattle.rpki_extensions.specs.BasicConstraints.{BasicConstraintsForm, basic_constraints_at}
use Rattle.rpki_extensions.specs.Extension.{ExtensionForm, MayStand, oid_of, Stated, stated}
use Rattle.rpki_extensions.specs.Extension.{standing_at}
use Rattle.rpki_extensions.specs.Identifiers.{id_ce, id_pkix}
use Rattle.rpki_extensions.specs.KeyIdentifiers.{SubjectKeyForm, AuthorityKeyForm}
use Rattle.rpki_extensions.specs.KeyIdentifiers.{subject_key_at, authority_key_at}
use Rattle.rpki_extensions.specs.Points.{PointsForm, points_at}
use Rattle.rpki_extensions.specs.Policies.{PoliciesForm, policies_at}
use Rattle.rpki_extensions.specs.Purposes.{PurposesForm, purposes_at}
use Rattle.rpki_extensions.specs.Usage.{KeyUsageForm, key_usage_at}

-- ---- identifiers

-- id-ce-subjectKeyIdentifier (4.8.2)
abbrev pub subject_key_identifier : List ℕ
subject_key_identifier = id_ce 14

-- id-ce-keyUsage (4.8.4)
abbrev pub key_usage : List ℕ
key_usage = id_ce 15

-- id-ce-basicConstraints (4.8.1)
abbrev pub basic_constraints : List ℕ
basic_constraints = id_ce 19

-- id-ce-cRLDistributionPoints (4.8.6)
abbrev pub crl_distribution_points : List ℕ
crl_distribution_points = id_ce 31

-- id-ce-certificatePolicies (4.8.9)
abbrev pub certificate_policies : List ℕ
certificate_policies = id_ce 32

-- id-ce-authorityKeyIdentifier (4.8.3)
abbrev pub authority_key_identifier : List ℕ
authority_key_identifier = id_ce 35

-- id-ce-extKeyUsage (4.8.5)
abbrev pub extended_key_usage : List ℕ
extended_key_usage = id_ce 37

-- id-pe-authorityInfoAccess (4.8.7)
abbrev pub authority_info_access : List ℕ
authority_info_access = id_pkix 1 1

-- id-pe-subjectInfoAccess (4.8.8)
abbrev pub subject_info_access : List ℕ
subject_info_access = id_pkix 1 11

-- The address extension of each policy: id-pe-ipAddrBlocks (4.8.10) where an overclaim is refused,
-- id-pe-ipAddrBlocks-v2 (RFC 8360, section 4.2.2.1) where it is trimmed.
abbrev pub ip_resources : Overclaim → List ℕ
ip_resources Refuse = id_pkix 1 7
ip_resources Trim = id_pkix 1 28

-- The AS number extension of each policy: id-pe-autonomousSysIds (4.8.11) where an overclaim is
-- refused, id-pe-autonomousSysIds-v2 (RFC 8360, section 4.2.2.3) where it is trimmed.
abbrev pub as_resources : Overclaim → List ℕ
as_resources Refuse = id_pkix 1 8
as_resources Trim = id_pkix 1 29

-- the other policy
abbrev pub other : Overclaim → Overclaim
other Refuse = Trim
other Trim = Refuse

-- the extensions known in a resource certificate (4.8; RFC 8360, section 4.2.2)
abbrev pub certificate_extensions : List (List ℕ)
certificate_extensions =
    subject_key_identifier
    ∷ key_usage
    ∷ basic_constraints
    ∷ crl_distribution_points
    ∷ certificate_policies
    ∷ authority_key_identifier
    ∷ extended_key_usage
    ∷ authority_info_access
    ∷ subject_info_access
    ∷ ip_resources Refuse
    ∷ as_resources Refuse
    ∷ ip_resources Trim
    ∷ as_resources Trim
    ∷ []

-- ---- what the extensions say

-- the subject information access that has no URI
abbrev pub no_access : SubjectAccess
no_access = record {
  ca_repository = None;
  rpki_manifest = None;
  signed_object = None;
  rpki_notify = None;
}

-- the claims if neither address family is named
abbrev pub no_addresses : IpClaims
no_addresses = record { v4 = Missing; v6 = Missing }

-- The value of the extension with this identifier, as `G` reads it; the default if there is none.
abbrev pub StatedOr : {X : Type 0} → X → List Extension → List ℕ → (Mode → List ℕ → X → Type 0)
    → X → Type 0
StatedOr {X} default list oid G x =
    (found : Option X) × Stated list oid G found × (x ≡ unwrap_or found default)

-- The octets have the form of an extended key usage. The value is always true: it is present.
abbrev pub HasPurposes : Mode → List ℕ → Bool → Type 0
HasPurposes mode = Made (λ _. true) (PurposesForm mode)

-- Facts about the key. The subject key identifier (4.8.2) and the key usage (4.8.4) must be
-- present. Letting the others be missing here is this project's own rule: the checks of a
-- certificate decide which it needs.
pub record AreKeyFacts (list : List Extension) (x : KeyFacts) : Type 0 where
  pub subject_key : Stated list subject_key_identifier SubjectKeyForm (Some x.subject_key)
  pub authority_key : Stated list authority_key_identifier AuthorityKeyForm x.authority_key
  pub basic_ca : Stated list basic_constraints BasicConstraintsForm x.basic_ca
  pub usage : Stated list key_usage KeyUsageForm (Some x.usage)
  pub has_purposes : StatedOr false list extended_key_usage HasPurposes x.has_purposes

-- The URIs (4.8.6 to 4.8.8). Letting each be missing here is this project's own rule: the checks of
-- a certificate decide which it needs.
pub record AreLocations (list : List Extension) (x : Locations) : Type 0 where
  pub crl : Stated list crl_distribution_points PointsForm x.crl
  pub ca_issuer : StatedOr None list authority_info_access AuthorityAccessForm x.ca_issuer
  pub subject : StatedOr no_access list subject_info_access SubjectAccessForm x.subject

-- The resources claimed. The policy must be present (4.8.9). It decides which two extensions hold
-- the claims; those of the other policy must be missing (RFC 8360, section 4.2.2).
pub record AreClaims (list : List Extension) (x : Claims) : Type 0 where
  pub policy : Stated list certificate_policies PoliciesForm (Some x.policy)
  pub addresses : StatedOr no_addresses list (ip_resources x.policy) IpClaimsForm x.addresses
  pub as_numbers : StatedOr Missing list (as_resources x.policy) AsIdentifiersForm x.as_numbers
  pub no_other_addresses : All (λ e. ¬ (oid_of e ≡ ip_resources (other x.policy))) list
  pub no_other_as_numbers : All (λ e. ¬ (oid_of e ≡ as_resources (other x.policy))) list

-- What the extensions say together. `MayStand` says which may stand in one certificate; those that
-- are not known say nothing.
pub record AreExtensions (list : List Extension) (x : Extensions) : Type 0 where
  pub stand : MayStand certificate_extensions list
  pub key : AreKeyFacts list x.key
  pub locations : AreLocations list x.locations
  pub claims : AreClaims list x.claims

-- Extensions: SEQUENCE OF Extension, in any order (RFC 5280, section 4.1)
abbrev pub ExtensionsForm : Mode → List ℕ → Extensions → Type 0
ExtensionsForm mode = Understood AreExtensions (SequenceOf mode (ExtensionForm mode))

-- ---- as functions

-- the value of the extension, or the default if there is none
abbrev pub stated_or : {X : Type 0} → X → List ℕ → Parser X → List Extension → Option X
stated_or default oid p list = stated oid p list >>= λ found. Some (unwrap_or found default)

-- reads an extended key usage; the value is always true
abbrev pub has_purposes_at : Parser Bool
has_purposes_at = made (λ _. true) purposes_at

-- the facts about the key
unfoldable pub key_facts_of : List Extension → Option KeyFacts
key_facts_of list = do
  subject ← must (stated subject_key_identifier subject_key_at list)
  authority ← stated authority_key_identifier authority_key_at list
  ca ← stated basic_constraints basic_constraints_at list
  usage ← must (stated key_usage key_usage_at list)
  purposes ← stated_or false extended_key_usage has_purposes_at list
  Some (record {
    subject_key = subject;
    authority_key = authority;
    basic_ca = ca;
    usage = usage;
    has_purposes = purposes;
  })

-- the URIs
unfoldable pub locations_of : List Extension → Option Locations
locations_of list = do
  crl ← stated crl_distribution_points points_at list
  issuer ← stated_or None authority_info_access authority_access_at list
  subject ← stated_or no_access subject_info_access subject_access_at list
  Some (record { crl = crl; ca_issuer = issuer; subject = subject })

-- the claims under this policy
unfoldable pub claims_under : Overclaim → List Extension → Option Claims
claims_under policy list = do
  addresses ← stated_or no_addresses (ip_resources policy) ip_claims_at list
  numbers ← stated_or Missing (as_resources policy) as_identifiers_at list
  Some (record { policy = policy; addresses = addresses; as_numbers = numbers })

-- whether an extension of the other policy is present
abbrev pub has_other : Overclaim → List Extension → Bool
has_other policy list =
    has_key oid_of (ip_resources (other policy)) list
    || has_key oid_of (as_resources (other policy)) list

-- the resources claimed, under the policy stated
unfoldable pub claims_of_list : List Extension → Option Claims
claims_of_list list =
    must (stated certificate_policies policies_at list)
    >>= λ policy. (if has_other policy list then None else claims_under policy list)

-- what the extensions say
unfoldable pub said_by_all : List Extension → Option Extensions
said_by_all list = do
  key ← key_facts_of list
  locations ← locations_of list
  claims ← claims_of_list list
  Some (record { key = key; locations = locations; claims = claims })

-- the extensions
abbrev pub extensions_at : Parser Extensions
extensions_at = sequence_at (partly said_by_all (standing_at certificate_extensions))
