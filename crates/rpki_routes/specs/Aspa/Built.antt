-- Building the content of an ASPA. The sections are those of draft-ietf-sidrops-aspa-profile-15.
use Rattle.std.specs.Prelude.{◌≡◌, ◌≢◌, ℕ, ◌≤◌, ◌<◌, List, [], ◌∷◌, length, get_or, Contains}
use Rattle.std.specs.Prelude.{codes}
use Rattle.std.specs.List.Sorted.{IsPermutation, IsStrictlyIncreasing}
use Rattle.rpki_basics.specs.Limits.{most_providers}
use Rattle.rpki_basics.specs.declared.build.BuildFault.{BuildFault}
use Rattle.rpki_basics.specs.declared.build.BuildFault.TheVariants as fault
use Rattle.rpki_basics.specs.declared.limits.ProviderLimit.{ProviderLimit}
use Rattle.rpki_faults.specs.Checks.{Check, ◌unless◌}
use Rattle.rpki_routes.specs.Aspa.{Aspa}
use Rattle.rpki_routes.specs.declared.aspa.builder.AddProviderError.{AddProviderError}
use Rattle.rpki_routes.specs.declared.aspa.builder.AddProviderError.TheVariants.{Duplicate, Memory}

-- The new providers are the old ones plus this one, in ascending order.
pub record IsAdded (provider : ℕ) (old new : List ℕ) : Type 0 where
  pub both : IsPermutation (provider ∷ old) new
  pub ascending : IsStrictlyIncreasing new

-- Where a number belongs in a list: all before it are lower, all from there on are higher.
pub record IsPlace (number : ℕ) (numbers : List ℕ) (place : ℕ) : Type 0 where
  pub within : place ≤ length numbers
  pub lower : (k : ℕ) → k < place → get_or numbers k 0 < number
  pub higher : (k : ℕ) → place ≤ k → k < length numbers → number < get_or numbers k 0

-- A number stands twice: the list is that number, the same again, and others, in some order.
abbrev pub HasTwice : List ℕ → Type 0
HasTwice numbers = (n : ℕ) × (others : List ℕ) × IsPermutation (n ∷ (n ∷ others)) numbers

-- the checks of an ASPA whose providers ascend, in order (3)
abbrev pub aspa_checks : ProviderLimit → Aspa → List (Check BuildFault)
aspa_checks limit a =
    (fault.CustomerAs0 unless (a.customer ≢ 0))
    ∷ (fault.Empty unless (1 ≤ length a.providers))
    ∷ (fault.TooMany unless (length a.providers ≤ most_providers limit))
    ∷ (fault.CustomerInSet unless (¬ Contains a.providers a.customer))
    ∷ (fault.As0NotAlone unless (Contains a.providers 0 → length a.providers ≡ 1))
    ∷ []

-- the error text when a provider cannot be added
abbrev pub add_text : AddProviderError → List ℕ
add_text Duplicate = codes "provider as set contains duplicate"
add_text Memory = codes "out of memory"
