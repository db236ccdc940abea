-- What is reported of payloads, with limits that are given or not.
use Rattle.std.proofs.Common.{◌≡◌, ◌+◌, ◌<◌, ◌++◌, ◌∷◌, ℕ, List, [], Option, Result, Ok, Err, Some}
use Rattle.std.proofs.Common.{get_or, inl, inr, length, refl, subst, sym, take}
use Rattle.std.specs.Borrow.{Bor}
use Rattle.std.specs.Prelude.{IfOk, string_bytes, unwrap_or}
use Rattle.std.specs.declared.alloc.AllocError.{AllocError}
use Rattle.rpki_basics.specs.Moment.{Moment}
use Rattle.rpki_cli.specs.Answer.{Run}
use Rattle.rpki_cli.specs.Store.{IsRead, Told}
use Rattle.rpki_cli.specs.Words.{texts}
use Rattle.rpki_payloads.specs.Locators.{File}
use Rattle.rpki_payloads.specs.Party.{Party}
use Rattle.rpki_payloads.specs.Report.{IsReport}
use Rattle.rpki_payloads.specs.declared.locators.NamedLocator.{NamedLocator}
use Rattle.rpki_payloads.specs.declared.report.PayloadsReport.{PayloadsReport}
use Rattle.rpki_payloads.specs.declared.slurm.text.Exceptions.{Exceptions}
use Rattle.rpki_rsa.specs.Signature.{is_rsa_signature}
use Rattle.sha2.specs.Sha256.{sha256}
use Rattle.rpki_program.specs.Verify.Copies.{Finds, FindsWithin}
use Rattle.rpki_program.specs.Verify.Payloads.{AreExceptions, AreLocated, AreNamedFiles}
use Rattle.rpki_program.specs.Verify.Payloads.{IsPayloadsOf}
use Rattle.rpki_program.specs.Verify.Payloads.{IsPayloadsReport, IsReportAfter, finds_for, party}
use Rattle.rpki_program.specs.Verify.Report.{IsStopped}
use Rattle.rpki_program.specs.Verify.Run.{IsDone, IsTimed, Reach}
use Rattle.rpki_program.specs.Verify.Time.{moment_at}
use Rattle.rpki_program.specs.declared.verify.report.Report.{Report}
use Rattle.rpki_program.specs.declared.verify.request.PayloadsRequest.{PayloadsRequest}
use Rattle.rpki_program.specs.declared.verify.request.Request.{Request}
use Rattle.rpki_program.proofs.Anchored.{get_or-same}
use Rattle.rpki_program.proofs.Running.{zip-next}

-- the party with another limit
abbrev pub party_with : Finds → PayloadsRequest → Moment → ℕ → Party
party_with finds r moment limit = record {
  finds = finds r.copy.now;
  digest = sha256;
  verdict = is_rsa_signature;
  moment = moment;
  providers = r.providers;
  limit = limit;
}

-- a report within the limit of a request
pub report-limited : (finds : Finds) (r : PayloadsRequest) (moment : Moment) (limit : ℕ)
    (locators : List NamedLocator) (exceptions : List Exceptions) (report : PayloadsReport)
    → limit ≡ unwrap_or r.limit 8589934592
    → IsReport (party_with finds r moment limit) locators r.format exceptions report
    → IsReport (party finds r moment) locators r.format exceptions report
report-limited finds r moment limit locators exceptions report e h =
    subst (λ (n : ℕ). IsReport (party_with finds r moment n) locators r.format exceptions report) e h

-- a report over files that are as large as a request lets them be
pub report-within : {Y : Type 0} (finds : Y → Finds) (y system : Y) (told : Told)
    (r : PayloadsRequest) (moment : Moment) (text : List ℕ) (status max : ℕ) → y ≡ system
    → max ≡ unwrap_or r.max_file 20000000
    → IsPayloadsReport told (λ folder name. FindsWithin (finds y folder name) max) r moment text
    status
    → IsPayloadsReport told (finds_for (finds system) r) r moment text status
report-within {Y} finds y system told r moment text status max s e h =
    subst (λ (z : Y). IsPayloadsReport told (finds_for (finds z) r) r moment text status) s
    (subst (λ (n : ℕ). IsPayloadsReport told (λ folder name. FindsWithin (finds y folder name) n)
    r moment text status) e h)

-- the same at the moment of the request
pub timed-pays : {Y : Type 0} (finds : Y → Finds) (y system : Y) (told : Told) (r : PayloadsRequest)
    (clock : Option Moment) (moment : Moment) (max : ℕ) (made : Result Report AllocError)
    → y ≡ system → max ≡ unwrap_or r.max_file 20000000 → moment_at clock r.at ≡ Some moment
    → IfOk made (λ x. IsPayloadsReport told (λ folder name. FindsWithin (finds y folder name) max) r
    moment (string_bytes x.out) x.status)
    → IfOk made (λ x. IsTimed clock r.at
    (λ now. IsPayloadsReport told (finds_for (finds system) r) r now) (string_bytes x.out) x.status)
timed-pays finds y system told r clock moment max (Ok x) s e m h =
    inr (moment, m, report-within finds y system told r moment (string_bytes x.out) x.status max s e h)
timed-pays finds y system told r clock moment max (Err e) s l m h = tt

-- what is done for a request is done for the same
pub done-as : (to : Reach) (request same : Request) (run : Run) → request ≡ same
    → IsDone to same run → IsDone to request run
done-as to request same run e h = subst (λ (r : Request). IsDone to r run) (sym e) h

-- one file more
pub named-more : (before told : Told) (names : List (Bor (List ℕ))) (i : ℕ) (d : Bor (List ℕ))
    (files : List File) (octets : List ℕ) → i < length names → before ≡ told
    → AreNamedFiles told (take i names) files → IsRead (before (get_or names i d).now) (Ok octets)
    → AreNamedFiles told (take (i + 1) names) (files ++ (get_or names i d, octets) ∷ [])
named-more before told names i d files octets l s h r =
    zip-next (λ (n : Bor (List ℕ)) (f : File). (f.0 ≡ n) × IsRead (told n.now) (Ok f.1)) names files i
    (get_or names i d) (get_or names i d, octets) l (sym (get_or-same names i d l)) h
    (refl, subst (λ (t : Told). IsRead (t (get_or names i d).now) (Ok octets)) s r)

-- a complaint stops it
pub stopped-pays : (told : Told) (finds : Finds) (r : PayloadsRequest) (moment : Moment) (n : ℕ)
    → IsStopped n → (made : Result Report AllocError)
    → IfOk made (λ x. (x.status ≡ n) × (string_bytes x.out ≡ []))
    → IfOk made (λ x. IsPayloadsReport told finds r moment (string_bytes x.out) x.status)
stopped-pays told finds r moment n s (Ok x) h =
    inl (subst (λ (k : ℕ). IsStopped k) (sym h.0) s, h.1)
stopped-pays told finds r moment n s (Err e) h = tt

-- a report under locators that are read
pub located-pays : (told : Told) (finds : Finds) (r : PayloadsRequest) (moment : Moment)
    (locators : List NamedLocator) → AreLocated told r.tals.items locators
    → (made : Result Report AllocError)
    → IfOk made (λ x. IsReportAfter told finds r moment locators (string_bytes x.out) x.status)
    → IfOk made (λ x. IsPayloadsReport told finds r moment (string_bytes x.out) x.status)
located-pays told finds r moment locators are (Ok x) h = inr (locators, are, h)
located-pays told finds r moment locators are (Err e) h = tt

-- a report after exceptions that are read
pub excepted-pays : (told : Told) (finds : Finds) (r : PayloadsRequest) (moment : Moment)
    (locators : List NamedLocator) (exceptions : List Exceptions)
    → AreExceptions told (texts r.slurm.items) exceptions → (made : Result Report AllocError)
    → IfOk made (λ x. IsPayloadsOf finds r moment locators exceptions (string_bytes x.out) x.status)
    → IfOk made (λ x. IsReportAfter told finds r moment locators (string_bytes x.out) x.status)
excepted-pays told finds r moment locators exceptions are (Ok x) h = inr (exceptions, are, h)
excepted-pays told finds r moment locators exceptions are (Err e) h = tt
