-- What is reported of payloads.
use Rattle.std.specs.Prelude.{◌≡◌, ◌⊎◌, ℕ, List, [], Ok, string_bytes, true, unwrap_or}
use Rattle.std.specs.Borrow.{Bor}
use Rattle.std.specs.List.{AllZip}
use Rattle.sha2.specs.Sha256.{sha256}
use Rattle.rpki_basics.specs.Moment.{Moment}
use Rattle.rpki_cli.specs.Store.{IsRead, Names, Told}
use Rattle.rpki_cli.specs.Words.{texts}
use Rattle.rpki_payloads.specs.Locators.{File, IsNamedLocator}
use Rattle.rpki_payloads.specs.Party.{Party}
use Rattle.rpki_payloads.specs.Report.{IsReport}
use Rattle.rpki_payloads.specs.Slurm.{are_apart}
use Rattle.rpki_payloads.specs.Slurm.Said.{IsExceptionsText}
use Rattle.rpki_payloads.specs.declared.locators.NamedLocator.{NamedLocator}
use Rattle.rpki_payloads.specs.declared.report.PayloadsReport.{PayloadsReport}
use Rattle.rpki_payloads.specs.declared.slurm.text.Exceptions.{Exceptions}
use Rattle.rpki_rsa.specs.Signature.{is_rsa_signature}
use Rattle.rpki_program.specs.Verify.Copies.{Finds, FindsWithin}
use Rattle.rpki_program.specs.Verify.Inputs.{AreOctets}
use Rattle.rpki_program.specs.Verify.Report.{IsStopped}
use Rattle.rpki_program.specs.declared.verify.request.PayloadsRequest.{PayloadsRequest}

-- The relying party that a request asks: with what reads of its copy may find, where digests are by
-- SHA-256 and signatures by RSA, and with its limits; the work under a locator is 8 GiB at most, if
-- nothing else is said.
abbrev pub party : Finds → PayloadsRequest → Moment → Party
party finds r moment = record {
  finds = finds r.copy.now;
  digest = sha256;
  verdict = is_rsa_signature;
  moment = moment;
  providers = r.providers;
  limit = unwrap_or r.limit 8589934592;
}

-- what reads may find, where no file is read that is larger than a request lets it be: 20,000,000
-- octets, if nothing else is said
abbrev pub finds_for : Finds → PayloadsRequest → Finds
finds_for finds r folder name found =
    FindsWithin (finds folder name) (unwrap_or r.max_file 20000000) found

-- This is the report of payloads under these locators and after these exceptions: the text is what
-- it has for standard output, and the status is its own.
abbrev pub IsPayloadsOf : Finds → PayloadsRequest → Moment → List NamedLocator → List Exceptions
    → List ℕ → ℕ → Type 0
IsPayloadsOf finds r moment locators exceptions text status = (report : PayloadsReport)
    × IsReport (party finds r moment) locators r.format exceptions report
    × (text ≡ string_bytes report.out) × (status ≡ report.status)

-- These are the local exceptions in the files of these names, by what the store tells of them, and
-- no two files speak of the same.
abbrev pub AreExceptions : Told → Names → List Exceptions → Type 0
AreExceptions told names exceptions = (files : List (List ℕ)) × AreOctets told names files
    × AllZip IsExceptionsText files exceptions × (are_apart exceptions ≡ true)

-- there is no report: the run is stopped, and nothing is said
abbrev pub IsNoReport : List ℕ → ℕ → Type 0
IsNoReport text status = IsStopped status × (text ≡ [])

-- This is the report of payloads under these locators, after the exceptions in the files of the
-- request, or there is none.
abbrev pub IsReportAfter : Told → Finds → PayloadsRequest → Moment → List NamedLocator → List ℕ → ℕ
    → Type 0
IsReportAfter told finds r moment locators text status = IsNoReport text status
    ⊎ ((exceptions : List Exceptions) × AreExceptions told (texts r.slurm.items) exceptions
    × IsPayloadsOf finds r moment locators exceptions text status)

-- these are the files of these names, with octets that the store tells of them, or any where it tells
-- nothing
abbrev pub AreNamedFiles : Told → List (Bor (List ℕ)) → List File → Type 0
AreNamedFiles told names files =
    AllZip (λ n f. (f.0 ≡ n) × IsRead (told n.now) (Ok f.1)) names files

-- These are the locators in the files of these names.
abbrev pub AreLocated : Told → List (Bor (List ℕ)) → List NamedLocator → Type 0
AreLocated told names locators = (files : List File) × AreNamedFiles told names files
    × AllZip IsNamedLocator files locators

-- What is reported of payloads, unless the run is stopped: under the locators in the files of the
-- request, after the exceptions in others.
abbrev pub IsPayloadsReport : Told → Finds → PayloadsRequest → Moment → List ℕ → ℕ → Type 0
IsPayloadsReport told finds r moment text status = IsNoReport text status
    ⊎ ((locators : List NamedLocator) × AreLocated told r.tals.items locators
    × IsReportAfter told finds r moment locators text status)
