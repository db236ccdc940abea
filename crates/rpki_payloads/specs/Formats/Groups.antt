-- Providers of one customer, side by side.
use Rattle.std.specs.Prelude.{◌≡◌, ◌≢◌, ℕ, ◌==◌, Bool, true, not, List, [], ◌∷◌, ◌++◌, All}
use Rattle.std.specs.Prelude.{Option, None, Some, min, fold, if◌then◌else◌, option_map}
use Rattle.std.specs.Prelude.{unwrap_or}
use Rattle.std.specs.List.{slice_get}
use Rattle.rpki_payloads.specs.Formats.Fields.{end_seconds}
use Rattle.rpki_payloads.specs.Formats.Row.{ProviderRow}

-- whether two providers are of one customer
abbrev pub same_customer : ProviderRow → ProviderRow → Bool
same_customer r s = r.provider.customer == s.provider.customer

-- whether a group ends with the first of these
abbrev pub ends : List ProviderRow → Bool
ends [] = true
ends (r ∷ []) = true
ends (r ∷ s ∷ rs) = not (same_customer r s)

-- the groups of these, after those of a group that has begun
abbrev pub groups_after : List ProviderRow → List ProviderRow → List (List ProviderRow)
groups_after begun [] = []
groups_after begun (r ∷ rs) =
    if ends (r ∷ rs) then (begun ++ r ∷ []) ∷ groups_after [] rs
    else groups_after (begun ++ r ∷ []) rs

-- the groups of these: each has those of one customer, which stand side by side
abbrev pub groups : List ProviderRow → List (List ProviderRow)
groups rows = groups_after [] rows

-- the customer of a group
abbrev pub customer_of : List ProviderRow → ℕ
customer_of g = unwrap_or (option_map (λ (r : ProviderRow). r.provider.customer) (slice_get g 0)) 0

-- the name of the first provider of a group
abbrev pub name_of : List ProviderRow → List ℕ
name_of g = unwrap_or (option_map (λ (r : ProviderRow). r.name) (slice_get g 0)) []

-- it has a provider, and all of its providers are of its customer
pub record IsOfOneCustomer (g : List ProviderRow) : Type 0 where
  pub some : g ≢ []
  pub each : All (λ (r : ProviderRow). r.provider.customer ≡ customer_of g) g

-- the earlier one of two ends, of which none is forever
abbrev pub sooner : Option ℕ → Option ℕ → Option ℕ
sooner None b = b
sooner (Some a) None = Some a
sooner (Some a) (Some b) = Some (min a b)

-- until when all of a group hold
abbrev pub expires_of : List ProviderRow → Option ℕ
expires_of rows = fold (λ e (r : ProviderRow). sooner e (end_seconds r.until)) None rows
