-- What is reported of locators.
use Rattle.std.specs.Prelude.{◌≡◌, ℕ, List, [], ◌++◌, codes, Option, Some, None, string_bytes}
use Rattle.std.specs.Prelude.{Ok, Err, is_ok, Bool, if◌then◌else◌}
use Rattle.std.specs.List.{AllZip, filter_map, flat_map, list_all, list_any}
use Rattle.rpki_basics.specs.Moment.{Moment}
use Rattle.rpki_payloads.specs.Formats.{IsPayloadsText}
use Rattle.rpki_payloads.specs.Found.{FoundUnder}
use Rattle.rpki_payloads.specs.Texts.Refusals.{refusals_text}
use Rattle.rpki_relying_party.specs.Runs.{run_fault_text}
use Rattle.rpki_payloads.specs.Outcomes.{Outcome, AnchorOutcome, IsOutcomeUnder, lacks_memory}
use Rattle.rpki_payloads.specs.Party.{Party}
use Rattle.rpki_payloads.specs.declared.formats.PayloadFormat.{PayloadFormat}
use Rattle.rpki_payloads.specs.declared.locators.NamedLocator.{NamedLocator}
use Rattle.rpki_payloads.specs.declared.report.PayloadsReport.{PayloadsReport}
use Rattle.rpki_payloads.specs.declared.slurm.text.Exceptions.{Exceptions}

-- what was found under the locator with this name, if there is a run
abbrev pub found_under : List ℕ → Outcome → Option FoundUnder
found_under name (Ok found) = Some (record { name = name; found = found })
found_under name (Err fault) = None

-- what was found under the locators that have a run, in their order
abbrev pub found_in : List AnchorOutcome → List FoundUnder
found_in outcomes = filter_map (λ p. found_under p.name p.outcome) outcomes

-- the line of a locator that has no run, as `refused anchor: more than 64 URIs`
abbrev pub outcome_line : List ℕ → Outcome → List ℕ
outcome_line name (Ok found) = []
outcome_line name (Err fault) =
    codes "refused " ++ (name ++ (codes ": " ++ (run_fault_text fault ++ codes "\n")))

-- a line for each locator that has no run, in their order
abbrev pub faults_text : List AnchorOutcome → List ℕ
faults_text outcomes = flat_map (λ p. outcome_line p.name p.outcome) outcomes

-- what is refused: locators, and what is below the others
abbrev pub refused_text : List AnchorOutcome → List ℕ
refused_text outcomes = faults_text outcomes ++ refusals_text (found_in outcomes)

-- whether a locator has no run for want of memory
abbrev pub memory_ran_out : List AnchorOutcome → Bool
memory_ran_out outcomes = list_any (λ p. lacks_memory p.outcome) outcomes

-- whether each locator has a run
abbrev pub all_have_runs : List AnchorOutcome → Bool
all_have_runs outcomes = list_all (λ p. is_ok p.outcome) outcomes

-- the exit status: 3 where a locator has no run for want of memory, else 0 where each has a run,
-- and 1 where one has none for another cause
abbrev pub status_of : List AnchorOutcome → ℕ
status_of outcomes =
    if memory_ran_out outcomes then 3 else if all_have_runs outcomes then 0 else 1

-- What the runs under these locators come to, one by one.
abbrev pub AreOutcomes : Party → List NamedLocator → List AnchorOutcome → Type 0
AreOutcomes party locators outcomes =
    AllZip (λ (l : NamedLocator). IsOutcomeUnder party l.name.now l.locator) locators outcomes

-- This is reported of what runs came to, in a format, after local exceptions.
pub record IsReportOf (exceptions : List Exceptions) (format : PayloadFormat) (moment : Moment)
    (outcomes : List AnchorOutcome) (r : PayloadsReport) : Type 0 where
  pub out : IsPayloadsText exceptions format moment (found_in outcomes) (string_bytes r.out)
  pub err : string_bytes r.err ≡ refused_text outcomes
  pub status : r.status ≡ status_of outcomes

-- This is reported of what the runs under these locators come to.
pub record IsReport (party : Party) (locators : List NamedLocator) (format : PayloadFormat)
    (exceptions : List Exceptions) (r : PayloadsReport) : Type 0 where
  pub outcomes : List AnchorOutcome
  pub each : AreOutcomes party locators outcomes
  pub says : IsReportOf exceptions format party.moment outcomes r
