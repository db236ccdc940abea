-- The extensions of a resource certificate that is made, in the order in which they are written.
use Rattle.std.specs.Prelude.{ℕ, ◌<◌, ◌^◌, List, [], ◌∷◌, ◌++◌, length, Bool, true, false}
use Rattle.std.specs.Prelude.{Option, None, Some, option_map}
use Rattle.std.specs.List.{filter_map}
use Rattle.rpki_der.specs.Tags.{OCTET_STRING, OBJECT_IDENTIFIER, SEQUENCE}
use Rattle.rpki_der.specs.Write.Parts.{contents_small, optional_octets, optional_small, IsEach}
use Rattle.rpki_der.specs.Write.Parts.{pair_small}
use Rattle.rpki_der.specs.Write.Written.{value_octets}
use Rattle.rpki_faults.specs.declared.overclaim.Overclaim.{Overclaim}
use Rattle.rpki_resources.specs.declared.block.Block.{Block}
use Rattle.rpki_resources.specs.declared.resources.Claim.{Claim}
use Rattle.rpki_resources.specs.declared.resources.Claim.TheVariants.{Missing, Inherit, Explicit}
use Rattle.rpki_extensions.specs.declared.access.SubjectAccess.{SubjectAccess}
use Rattle.rpki_extensions.specs.declared.addresses.IpClaims.{IpClaims}
use Rattle.rpki_extensions.specs.declared.extension.Extension.{Extension}
use Rattle.rpki_extensions.specs.declared.extensions.Extensions.{Extensions}
use Rattle.rpki_extensions.specs.Extensions.{subject_key_identifier, key_usage, basic_constraints}
use Rattle.rpki_extensions.specs.Extensions.{crl_distribution_points, certificate_policies}
use Rattle.rpki_extensions.specs.Extensions.{authority_key_identifier, authority_info_access}
use Rattle.rpki_extensions.specs.Extensions.{subject_info_access, ip_resources, as_resources}
use Rattle.rpki_issued.specs.Values.{subject_key_octets, authority_key_octets, flag_octets}
use Rattle.rpki_issued.specs.Values.{basic_octets, usage_octets, points_octets}
use Rattle.rpki_issued.specs.Values.{authority_access_octets, subject_access_octets}
use Rattle.rpki_issued.specs.Values.{policies_octets, as_claim_octets, ip_claims_octets}

-- An extension without its header: its identifier, its flag and the octets of its value (RFC 5280,
-- section 4.1).
abbrev pub extension_contents : List ℕ → Bool → List ℕ → List ℕ
extension_contents oid critical value =
    value_octets OBJECT_IDENTIFIER oid
    ++ (flag_octets critical ++ value_octets OCTET_STRING value)

-- an extension
abbrev pub extension_octets : List ℕ → Bool → List ℕ → List ℕ
extension_octets oid critical value =
    value_octets SEQUENCE (extension_contents oid critical value)

-- An extension that may stand: its identifier, its flag, and the octets of its value, where it
-- stands.
pub record OptionalExtension : Type 0 where
  pub oid : List ℕ
  pub critical : Bool
  pub value : Option (List ℕ)

-- its identifier
abbrev pub optional_oid : OptionalExtension → List ℕ
optional_oid s = s.oid

-- the extension that stands with this value
abbrev pub standing_with : OptionalExtension → List ℕ → Extension
standing_with s value = record { oid = s.oid; critical = s.critical; value = value }

-- the extension that stands, if it does
abbrev pub standing : OptionalExtension → Option Extension
standing s = option_map (standing_with s) s.value

-- the octets of one with this value, if there is one
abbrev pub octets_with : OptionalExtension → Option (List ℕ) → List ℕ
octets_with s v = optional_octets (extension_octets s.oid s.critical) v

-- the octets of one that may stand
abbrev pub octets_of : OptionalExtension → List ℕ
octets_of s = octets_with s s.value

-- what stands has contents of fewer than 2^32 octets
abbrev pub IsShortOptional : OptionalExtension → Type 0
IsShortOptional s = IsEach (λ v. length (extension_contents s.oid s.critical v) < 2 ^ 32) s.value

-- where an extension has fewer than 2^32 octets, so have its contents
pub short_optional : (s : OptionalExtension) → length (octets_of s) < 2 ^ 32 → IsShortOptional s
short_optional s h =
    optional_small (extension_octets s.oid s.critical)
    (λ v. length (extension_contents s.oid s.critical v) < 2 ^ 32)
    (λ v k. contents_small SEQUENCE (extension_contents s.oid s.critical v) k) s.value h

-- an extension that stands always
abbrev pub always : List ℕ → Bool → List ℕ → OptionalExtension
always oid critical value = record { oid = oid; critical = critical; value = Some value }

-- an extension that stands where there is something to say
abbrev pub maybe : {X : Type 0} → List ℕ → Bool → (X → List ℕ) → Option X → OptionalExtension
maybe oid critical octets x = record { oid = oid; critical = critical; value = option_map octets x }

-- access to the subject, where something is to be had
abbrev pub some_access : SubjectAccess → Option (List ℕ) → Option (List ℕ) → Option (List ℕ)
    → Option (List ℕ) → Option SubjectAccess
some_access x None None None None = None
some_access x None None None (Some uri) = Some x
some_access x None None (Some uri) notify = Some x
some_access x None (Some uri) object notify = Some x
some_access x (Some uri) manifest object notify = Some x

-- what is said to be had from the subject, if anything
abbrev pub said_access : SubjectAccess → Option SubjectAccess
said_access x = some_access x x.ca_repository x.rpki_manifest x.signed_object x.rpki_notify

-- a claim that names its family
abbrev pub said_claim : Claim (List (Block ℕ)) → Option (Claim (List (Block ℕ)))
said_claim Missing = None
said_claim Inherit = Some Inherit
said_claim (Explicit set) = Some (Explicit set)

-- claims that name a family
abbrev pub some_addresses : IpClaims → Claim (List (Block ℕ)) → Claim (List (Block ℕ))
    → Option IpClaims
some_addresses x Missing Missing = None
some_addresses x Missing Inherit = Some x
some_addresses x Missing (Explicit set) = Some x
some_addresses x Inherit v6 = Some x
some_addresses x (Explicit set) v6 = Some x

-- the claims of addresses, if a family is named
abbrev pub said_addresses : IpClaims → Option IpClaims
said_addresses x = some_addresses x x.v4 x.v6

-- What is said of the key, and where the revocation list is, each with the flag that RFC 6487,
-- section 4.8, gives it.
abbrev pub first_extensions : Extensions → List OptionalExtension
first_extensions x =
    maybe basic_constraints true basic_octets x.key.basic_ca
    ∷ always subject_key_identifier false (subject_key_octets x.key.subject_key)
    ∷ maybe authority_key_identifier false authority_key_octets x.key.authority_key
    ∷ always key_usage true (usage_octets x.key.usage)
    ∷ maybe crl_distribution_points false points_octets x.locations.crl
    ∷ []

-- The extensions that come after these, under this policy.
abbrev pub last_extensions : Overclaim → Extensions → List OptionalExtension
last_extensions policy x =
    maybe authority_info_access false authority_access_octets x.locations.ca_issuer
    ∷ maybe subject_info_access false subject_access_octets (said_access x.locations.subject)
    ∷ always certificate_policies true (policies_octets policy)
    ∷ maybe (ip_resources policy) true ip_claims_octets (said_addresses x.claims.addresses)
    ∷ maybe (as_resources policy) true as_claim_octets (said_claim x.claims.as_numbers)
    ∷ []

-- all extensions under this policy, in the order in which they are written
abbrev pub extensions_under : Overclaim → Extensions → List OptionalExtension
extensions_under policy x = first_extensions x ++ last_extensions policy x

-- all extensions of a certificate that says this
abbrev pub all_extensions : Extensions → List OptionalExtension
all_extensions x = extensions_under x.claims.policy x

-- those that stand
abbrev pub standing_list : List OptionalExtension → List Extension
standing_list list = filter_map standing list

-- those that stand, one after another
abbrev pub row : List OptionalExtension → List ℕ
row [] = []
row (s ∷ []) = octets_of s
row (s ∷ t ∷ list) = octets_of s ++ row (t ∷ list)

-- the first ones, as they are written
abbrev pub first_octets : Extensions → List ℕ
first_octets x = row (first_extensions x)

-- the last ones, as they are written
abbrev pub last_octets : Extensions → List ℕ
last_octets x = row (last_extensions x.claims.policy x)

-- the extensions without the header of their SEQUENCE
abbrev pub extensions_contents : Extensions → List ℕ
extensions_contents x = first_octets x ++ last_octets x

-- the extensions
abbrev pub extensions_octets : Extensions → List ℕ
extensions_octets x = value_octets SEQUENCE (extensions_contents x)

-- each that stands has contents of fewer than 2^32 octets
abbrev pub AreShortOptionals : List OptionalExtension → Type 0
AreShortOptionals [] = Unit {0}
AreShortOptionals (s ∷ []) = IsShortOptional s
AreShortOptionals (s ∷ t ∷ list) = IsShortOptional s × AreShortOptionals (t ∷ list)

-- where all have fewer than 2^32 octets, so has each
pub short_optionals : (list : List OptionalExtension) → length (row list) < 2 ^ 32
    → AreShortOptionals list
short_optionals [] h = tt
short_optionals (s ∷ []) h = short_optional s h
short_optionals (s ∷ t ∷ list) h =
    pair_small (octets_of s) (row (t ∷ list)) (short_optional s) (short_optionals (t ∷ list)) h
