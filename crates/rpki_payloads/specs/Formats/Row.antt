-- Rows of payloads.
use Rattle.std.specs.Prelude.{ℕ, List, Option}
use Rattle.rpki_basics.specs.Moment.{Moment}
use Rattle.rpki_relying_party.specs.declared.payload.Origin.{Origin}
use Rattle.rpki_relying_party.specs.declared.payload.Provider.{Provider}

-- an origin, the name of the locator under which it was found, until when it holds, if not forever,
-- and the URI of the object that says it
pub record OriginRow : Type 0 where
  pub name : List ℕ
  pub origin : Origin
  pub until : Option Moment
  pub object : List ℕ

-- a provider of a customer, with the same
pub record ProviderRow : Type 0 where
  pub name : List ℕ
  pub provider : Provider
  pub until : Option Moment
  pub object : List ℕ

-- the origin of a row
abbrev pub origin_payload : OriginRow → Origin
origin_payload r = r.origin

-- until when it holds
abbrev pub origin_until : OriginRow → Option Moment
origin_until r = r.until

-- the provider of a row
abbrev pub provider_payload : ProviderRow → Provider
provider_payload r = r.provider

-- until when it holds
abbrev pub provider_until : ProviderRow → Option Moment
provider_until r = r.until
