-- The rows of the payloads that were found, after local exceptions (RFC 8416).
use Rattle.std.specs.Prelude.{◌≡◌, ◌⊎◌, ℕ, Bool, true, false, not, List, [], ◌++◌, Option, Some, None}
use Rattle.std.specs.Prelude.{Contains, codes, map}
use Rattle.std.specs.List.{filter, flat_map}
use Rattle.rpki_basics.specs.Moment.{Moment}
use Rattle.rpki_relying_party.specs.Found.{Lists}
use Rattle.rpki_relying_party.specs.Orders.{origin_order, provider_order}
use Rattle.rpki_relying_party.specs.declared.found.Finding.TheVariants as findings
use Rattle.rpki_relying_party.specs.declared.payload.Held.{Held}
use Rattle.rpki_relying_party.specs.declared.payload.Origin.{Origin}
use Rattle.rpki_relying_party.specs.declared.payload.Payload.TheVariants as payloads
use Rattle.rpki_relying_party.specs.declared.payload.Provider.{Provider}
use Rattle.rpki_payloads.specs.Formats.Joined.{AreJoined}
use Rattle.rpki_payloads.specs.Formats.Row.{OriginRow, ProviderRow, origin_payload, origin_until}
use Rattle.rpki_payloads.specs.Formats.Row.{provider_payload, provider_until}
use Rattle.rpki_payloads.specs.Found.{FoundUnder}
use Rattle.rpki_payloads.specs.Slurm.{drops_origin, drops_provider, asserted, asserted_providers}
use Rattle.rpki_payloads.specs.Slurm.{provider_of}
use Rattle.rpki_payloads.specs.declared.slurm.text.AspaAssertion.{AspaAssertion}
use Rattle.rpki_payloads.specs.declared.slurm.text.Exceptions.{Exceptions}
use Rattle.rpki_payloads.specs.declared.slurm.text.PrefixAssertion.{PrefixAssertion}

-- the row of an origin that was found under this name
abbrev pub origin_row : List ℕ → Origin × Held → OriginRow
origin_row name e = record {
  name = name;
  origin = e.0;
  until = Some e.1.until;
  object = e.1.object;
}

-- the row of an origin that is asserted
abbrev pub asserted_row : Origin → OriginRow
asserted_row o = record { name = codes "slurm"; origin = o; until = None; object = [] }

-- the origins under one name, in their order, but for those that a filter removes
abbrev pub kept_origins : List Exceptions → FoundUnder → List OriginRow
kept_origins exceptions f = filter (λ (r : OriginRow). not (drops_origin exceptions r.origin))
    (map (origin_row f.name) f.found.payloads.origins.entries)

-- the origins that a file asserts
abbrev pub added_origins : Exceptions → List OriginRow
added_origins s =
    map (λ a. asserted_row (asserted a)) s.assertions.prefix_assertions.items

-- All that is said of origins: those that were found, name by name, but for those that a filter
-- removes, and then those that are asserted.
abbrev pub said_origins : List Exceptions → List FoundUnder → List OriginRow
said_origins exceptions found =
    flat_map (kept_origins exceptions) found ++ flat_map added_origins exceptions

-- the row of a provider that was found under this name
abbrev pub provider_row : List ℕ → Provider × Held → ProviderRow
provider_row name e = record {
  name = name;
  provider = e.0;
  until = Some e.1.until;
  object = e.1.object;
}

-- the row of a provider that is asserted
abbrev pub asserted_provider : Provider → ProviderRow
asserted_provider p = record { name = codes "slurm"; provider = p; until = None; object = [] }

-- the providers under one name, in their order, but for those that a filter removes
abbrev pub kept_providers : List Exceptions → FoundUnder → List ProviderRow
kept_providers exceptions f =
    filter (λ (r : ProviderRow). not (drops_provider exceptions r.provider))
    (map (provider_row f.name) f.found.payloads.providers.entries)

-- the providers of one customer that are asserted
abbrev pub providers_of_assertion : AspaAssertion → List ProviderRow
providers_of_assertion a = map asserted_provider (asserted_providers a)

-- the providers that a file asserts
abbrev pub added_providers : Exceptions → List ProviderRow
added_providers s =
    flat_map providers_of_assertion s.assertions.aspa_assertions.items

-- all that is said of providers, in the same order
abbrev pub said_providers : List Exceptions → List FoundUnder → List ProviderRow
said_providers exceptions found =
    flat_map (kept_providers exceptions) found ++ flat_map added_providers exceptions

-- ---- what is filtered goes, what is asserted comes (RFC 8416, sections 3.3 and 3.4)

-- an origin that was found under this name, and that no filter removes
abbrev pub IsKeptOrigin : List Exceptions → FoundUnder → OriginRow → Type 0
IsKeptOrigin exceptions f r =
    (h : Held) × Lists f.found (findings.Payload (payloads.Origin r.origin) h)
    × (r ≡ origin_row f.name (r.origin, h)) × (drops_origin exceptions r.origin ≡ false)

-- an origin that one of the files asserts
abbrev pub IsAddedOrigin : List Exceptions → OriginRow → Type 0
IsAddedOrigin exceptions r =
    (file : Exceptions) × (a : PrefixAssertion) × Contains exceptions file
    × Contains file.assertions.prefix_assertions.items a × (r ≡ asserted_row (asserted a))

-- An origin is said: it was found under a name and no filter removes it, or it is asserted.
abbrev pub IsSaidOrigin : List Exceptions → List FoundUnder → OriginRow → Type 0
IsSaidOrigin exceptions found r =
    ((f : FoundUnder) × Contains found f × IsKeptOrigin exceptions f r)
    ⊎ IsAddedOrigin exceptions r

-- the rows of the origins after local exceptions: one of each that is said
abbrev pub AreOriginsAfter : List Exceptions → List FoundUnder → List OriginRow → Type 0
AreOriginsAfter exceptions found =
    AreJoined origin_order origin_payload origin_until (IsSaidOrigin exceptions found)
    (said_origins exceptions found)

-- a provider that was found under this name, and that no filter removes
abbrev pub IsKeptProvider : List Exceptions → FoundUnder → ProviderRow → Type 0
IsKeptProvider exceptions f r =
    (h : Held) × Lists f.found (findings.Payload (payloads.Provider r.provider) h)
    × (r ≡ provider_row f.name (r.provider, h)) × (drops_provider exceptions r.provider ≡ false)

-- a provider that one of the files asserts
abbrev pub IsAddedProvider : List Exceptions → ProviderRow → Type 0
IsAddedProvider exceptions r =
    (file : Exceptions) × (a : AspaAssertion) × (n : ℕ) × Contains exceptions file
    × Contains file.assertions.aspa_assertions.items a × Contains a.provider_asns.items n
    × (r ≡ asserted_provider (provider_of a.customer_asn n))

-- a provider is said
abbrev pub IsSaidProvider : List Exceptions → List FoundUnder → ProviderRow → Type 0
IsSaidProvider exceptions found r =
    ((f : FoundUnder) × Contains found f × IsKeptProvider exceptions f r)
    ⊎ IsAddedProvider exceptions r

-- the rows of the providers after local exceptions: one of each that is said
abbrev pub AreProvidersAfter : List Exceptions → List FoundUnder → List ProviderRow → Type 0
AreProvidersAfter exceptions found =
    AreJoined provider_order provider_payload provider_until (IsSaidProvider exceptions found)
    (said_providers exceptions found)

-- ---- sets of payloads

-- an origin is found under one of the names
abbrev pub FindsOrigin : List FoundUnder → Origin → Type 0
FindsOrigin found o = (f : FoundUnder) × (h : Held) × Contains found f
    × Lists f.found (findings.Payload (payloads.Origin o) h)

-- an origin is asserted by one of the files
abbrev pub AssertsOrigin : List Exceptions → Origin → Type 0
AssertsOrigin exceptions o =
    (file : Exceptions) × (a : PrefixAssertion) × Contains exceptions file
    × Contains file.assertions.prefix_assertions.items a × (o ≡ asserted a)

-- it has a row
abbrev pub HasOrigin : List OriginRow → Origin → Type 0
HasOrigin rows o = (r : OriginRow) × Contains rows r × (r.origin ≡ o)

-- a provider is found under one of the names
abbrev pub FindsProvider : List FoundUnder → Provider → Type 0
FindsProvider found p = (f : FoundUnder) × (h : Held) × Contains found f
    × Lists f.found (findings.Payload (payloads.Provider p) h)

-- a provider is asserted by one of the files
abbrev pub AssertsProvider : List Exceptions → Provider → Type 0
AssertsProvider exceptions p =
    (file : Exceptions) × (a : AspaAssertion) × Contains exceptions file
    × Contains file.assertions.aspa_assertions.items a × Contains (asserted_providers a) p

-- it has a row
abbrev pub HasProvider : List ProviderRow → Provider → Type 0
HasProvider rows p = (r : ProviderRow) × Contains rows r × (r.provider ≡ p)

-- What a filter removes has no row, unless it is asserted; what is asserted has one, which holds
-- forever; and what was found, and no filter removes, has one (RFC 8416, sections 3.3 and 3.4).
pub record FollowExceptions {K R : Type 0} (Finds Asserts Has : K → Type 0)
    (drops : K → Bool) (key : R → K) (until : R → Option Moment) (rows : List R) : Type 0 where
  pub gone : (k : K) → drops k ≡ true → ¬ Asserts k → ¬ Has k
  pub asserted : (k : K) → Asserts k → Has k
  pub forever : (r : R) → Contains rows r → Asserts (key r) → until r ≡ None
  pub stays : (k : K) → Finds k → drops k ≡ false → Has k
  pub no_more : (k : K) → Has k → Finds k ⊎ Asserts k
