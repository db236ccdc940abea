-- What a run of the program comes to.
use Rattle.std.specs.Prelude.{◌≡◌, ◌⊎◌, ℕ, List, [], Option, Some}
use Rattle.rpki_basics.specs.Moment.{Moment}
use Rattle.rpki_cli.specs.Answer.{Run}
use Rattle.rpki_cli.specs.Arguments.{AreTexts, ToldArguments}
use Rattle.rpki_cli.specs.Store.{Told}
use Rattle.rpki_program.specs.Verify.Check.{IsChecked}
use Rattle.rpki_program.specs.Verify.Copies.{Finds}
use Rattle.rpki_program.specs.Verify.Files.{IsFilesReport, Named}
use Rattle.rpki_program.specs.Verify.Payloads.{IsPayloadsReport, finds_for}
use Rattle.rpki_program.specs.Verify.Report.{EndsAtFailure, IsCut, IsSilent, IsWritten}
use Rattle.rpki_program.specs.Verify.Requests.{AskFor}
use Rattle.rpki_program.specs.Verify.Rta.{IsRtaReport}
use Rattle.rpki_program.specs.Verify.Time.{moment_at}
use Rattle.rpki_program.specs.Verify.Verdicts.{IsListReport}
use Rattle.rpki_program.specs.declared.verify.request.CheckRequest.{CheckRequest}
use Rattle.rpki_program.specs.declared.verify.request.Request.{Request}
use Rattle.rpki_program.specs.declared.verify.request.Request.TheVariants.{Check, Files, Payloads}
use Rattle.rpki_program.specs.declared.verify.request.Request.TheVariants.{Rta, Verdicts}
use Rattle.rpki_program.specs.declared.verify.request.When.{When}

-- What a run reaches: what the store tells of each file, what the clock tells, the names that the
-- system may tell of the files of a folder, and what reads below a folder may find.
pub record Reach : Type 1 where
  pub told : Told
  pub clock : Option Moment
  pub named : Named
  pub finds : Finds

-- a run that reaches this
abbrev pub reaching : Told → Option Moment → Named → Finds → Reach
reaching told clock named finds =
    record { told = told; clock = clock; named = named; finds = finds }

-- Such a text and such a status at the moment of a check, where the clock tells this; or the status
-- 2 and no text, as where it tells none.
abbrev pub IsTimed : Option Moment → When → (Moment → List ℕ → ℕ → Type 0) → List ℕ → ℕ → Type 0
IsTimed clock at Says text status = ((status ≡ 2) × (text ≡ []))
    ⊎ ((now : Moment) × (moment_at clock at ≡ Some now) × Says now text status)

-- What a check comes to, where the clock tells this: what it does at its moment; or it is cut before
-- it writes anything, as where the clock tells none.
abbrev pub IsCheckedAt : Told → Option Moment → CheckRequest → Run → Type 0
IsCheckedAt told clock r run = (IsCut run.status × IsSilent run)
    ⊎ ((now : Moment) × (moment_at clock r.at ≡ Some now)
    × IsChecked told r now run.out_before.0 run.out_after.0 run.status)

-- What a request comes to. Of `show`, `verdicts` of an attestation, `explain`, `--help` and their like
-- this says nothing.
abbrev pub IsDone : Reach → Request → Run → Type 0
IsDone to (Check r) run = IsCheckedAt to.told to.clock r run
IsDone to (Files r) run =
    IsWritten (IsTimed to.clock r.at (λ now. IsFilesReport to.told to.named r now)) run
IsDone to (Rta r) run = IsWritten (IsTimed to.clock r.at (λ now. IsRtaReport to.told r now)) run
IsDone to (Payloads r) run = IsWritten (IsTimed to.clock r.at
    (λ now. IsPayloadsReport to.told (finds_for to.finds r) r now)) run
IsDone to (Verdicts r) run = IsWritten (IsListReport to.told r) run
IsDone to request run = Unit {0}

-- What a run with these words comes to: they ask for a request, and this is done, unless the run is
-- cut before it writes anything; and it ends where a write fails.
pub record IsRun (to : Reach) (words : List (List ℕ)) (run : Run) : Type 0 where
  pub ends : EndsAtFailure run
  pub done : (IsCut run.status × IsSilent run)
      ⊎ ((request : Request) × AskFor words request × IsDone to request run)

-- What the start of a process comes to: a run with the words after the name of the program, which
-- may be any texts where the arguments are not told, unless it is cut; and it ends where a write
-- fails.
pub record IsStart (arguments : ToldArguments) (to : Reach) (run : Run) : Type 0 where
  pub ends : EndsAtFailure run
  pub done : (IsCut run.status × IsSilent run)
      ⊎ ((words : List (List ℕ)) × AreTexts arguments words × IsRun to words run)
