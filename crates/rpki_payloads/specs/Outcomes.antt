-- What a validation run under a locator comes to.
use Rattle.std.specs.Prelude.{◌≡◌, ℕ, List, Result, Ok, Err, Bool, true, false}
use Rattle.rpki_tal.specs.Tal.{Locator}
use Rattle.rpki_relying_party.specs.Found.{Lists}
use Rattle.rpki_relying_party.specs.Runs.{FindsAllUnder, IsLeftRefusal, IsRunUnder, IsSaidUnder}
use Rattle.rpki_relying_party.specs.Runs.{KeepsAll, TellsSteadily, WhyNoRun}
use Rattle.rpki_relying_party.specs.Setting.{Setting}
use Rattle.rpki_relying_party.specs.Walk.{Left}
use Rattle.rpki_relying_party.specs.declared.found.Finding.{Finding}
use Rattle.rpki_relying_party.specs.declared.found.Found.{Found}
use Rattle.rpki_relying_party.specs.declared.locator.RunFault.{RunFault}
use Rattle.rpki_relying_party.specs.declared.locator.RunFault.TheVariants as faults
use Rattle.rpki_relying_party.specs.declared.place.Place.{Place}
use Rattle.rpki_payloads.specs.Party.{Party, setting_of}

-- what is found, or why there is no run
abbrev pub Outcome : Type 0
Outcome = Result Found RunFault

-- whether the cause is want of memory
abbrev pub is_memory : RunFault → Bool
is_memory (faults.Anchor fault) = false
is_memory (faults.Point cause) = false
is_memory faults.Limit = false
is_memory faults.Memory = true

-- whether there is no run for want of memory
abbrev pub lacks_memory : Outcome → Bool
lacks_memory (Ok found) = false
lacks_memory (Err fault) = is_memory fault

-- the name of a locator, and what the run under it came to
pub record AnchorOutcome : Type 0 where
  pub name : List ℕ
  pub outcome : Outcome

-- This is found under a locator, within a limit: what a run from nothing found, and a refusal for
-- each CA that listed places which were left unread. Where the copy does not change, all was found
-- but what lies below such places.
pub record IsFoundIn (s : Setting) (tal : Locator) (limit : ℕ) (found : Found) : Type 0 where
  pub nothing : Found
  pub is_empty : (x : Finding) → ¬ Lists nothing x
  pub run : Found
  pub unread : List (Left Place)
  pub reads : IsRunUnder s tal limit nothing run unread
  pub sound : (x : Finding) → Lists run x → IsSaidUnder s tal x
  pub complete : TellsSteadily s → FindsAllUnder s tal run unread
  pub refused : KeepsAll (IsLeftRefusal unread) run found

-- what a run under a locator comes to; of want of memory no more is said
abbrev pub IsOutcome : Setting → Locator → ℕ → Outcome → Type 0
IsOutcome s tal limit (Ok found) = IsFoundIn s tal limit found
IsOutcome s tal limit (Err fault) = WhyNoRun s tal limit fault

-- what a run under the locator with this name comes to
abbrev pub IsNamedOutcome : Setting → List ℕ → Locator → ℕ → AnchorOutcome → Type 0
IsNamedOutcome s name tal limit a = (a.name ≡ name) × IsOutcome s tal limit a.outcome

-- what the run comes to under the locator with this name
abbrev pub IsOutcomeUnder : Party → List ℕ → Locator → AnchorOutcome → Type 0
IsOutcomeUnder party name tal a =
    IsNamedOutcome (setting_of party name) name tal party.limit a
