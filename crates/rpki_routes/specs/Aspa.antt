-- The content of an Autonomous System Provider Authorization (ASPA;
-- draft-ietf-sidrops-aspa-profile-15, section 3).
pub mod Built
pub mod Checks
pub mod Form
pub mod Read
pub mod Signed
pub mod Written
use Rattle.std.specs.Prelude.{◌≡◌, ◌≢◌, ℕ, ◌≤◌, List, length, All, Contains}
use Rattle.std.specs.List.Sorted.{IsStrictlyIncreasing}
use Rattle.rpki_basics.specs.declared.limits.ProviderLimit.{ProviderLimit}
use Rattle.rpki_basics.specs.Limits.{most_providers}
use Rattle.rpki_resources.specs.As.{IsAsn}

-- what an ASPA states: the customer and its providers
pub record Aspa : Type 0 where
  pub customer : ℕ
  pub providers : List ℕ

-- At least one AS number and no more than the limit, in strictly ascending order; 0 only alone. The
-- profile's ASN.1 has SIZE (1..MAX) (section 3); the limits are this project's own.
pub record IsProviderSet (limit : ProviderLimit) (providers : List ℕ) : Type 0 where
  pub some : 1 ≤ length providers
  pub most : length providers ≤ most_providers limit
  pub ascending : IsStrictlyIncreasing providers
  pub alone : Contains providers 0 → length providers ≡ 1
  pub numbers : All IsAsn providers

-- The customer is an AS number other than 0 and none of its own providers. The providers are a set
-- within the limit (`IsProviderSet`).
pub record IsAttestation (limit : ProviderLimit) (a : Aspa) : Type 0 where
  pub not_zero : a.customer ≢ 0
  pub number : IsAsn a.customer
  pub providers : IsProviderSet limit a.providers
  pub others : Contains a.providers a.customer → ⊥

-- a customer's providers: a set within the limit (`IsProviderSet`) without the customer itself
pub record AreProviders (limit : ProviderLimit) (customer : ℕ) (providers : List ℕ) : Type 0 where
  pub set : IsProviderSet limit providers
  pub others : Contains providers customer → ⊥
