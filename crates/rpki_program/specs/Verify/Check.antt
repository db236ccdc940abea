-- What a check of files writes, and its status.
use Rattle.std.specs.Prelude.{◌≡◌, ℕ, ◌≤◌, ◌⊎◌, List, [], ◌∷◌, ◌++◌, All, Any, Bool, true, false}
use Rattle.std.specs.Prelude.{Err, Option, String, codes, string_bytes}
use Rattle.std.specs.Borrow.{Bor}
use Rattle.std.specs.Io.KnownBytes.{Appends}
use Rattle.std.specs.List.{AllZip, flat_map}
use Rattle.std.specs.declared.alloc.Global.{Global}
use Rattle.rpki_basics.specs.Moment.{Moment}
use Rattle.rpki_cli.specs.Store.{IsRead, Told}
use Rattle.rpki_cli.specs.declared.store.Reason.{Reason}
use Rattle.rpki_cli.specs.declared.store.StoreError.TheVariants.{Unreadable}
use Rattle.rpki_der.specs.Write.Sink.{AppendsFront}
use Rattle.rpki_validation.specs.Grounds.{AreGroundsOf, HasNoGrounds}
use Rattle.rpki_sigobj.specs.Signed.Kind.{ObjectKind}
use Rattle.rpki_validation.specs.Object.{IsNotGoodFor}
use Rattle.rpki_validation.specs.declared.grounds.Grounds.{Grounds}
use Rattle.rpki_validation.specs.declared.question.Question.{Question}
use Rattle.rpki_validation.specs.declared.refusal.Refusal.{Refusal}
use Rattle.rpki_program.specs.Verify.Entry.{IsEntry, IsJudgedFile, status_of}
use Rattle.rpki_program.specs.Verify.Inputs.{HasNoAnswer, IsQuestionOf}
use Rattle.rpki_program.specs.Verify.Judged.{IsJudged}
use Rattle.rpki_program.specs.Verify.Kinds.{IsKindOf}
use Rattle.rpki_program.specs.Verify.Report.{IsCut, IsLine, IsNoIssuer, IsPut, IsStopped}
use Rattle.rpki_program.specs.declared.verify.check.entry.Entry.{Entry}
use Rattle.rpki_program.specs.declared.verify.check.judged.Judged.TheVariants.{No, Yes}
use Rattle.rpki_program.specs.declared.verify.request.CheckRequest.{CheckRequest}
use Rattle.rpki_program.specs.declared.verify.request.FileKind.{FileKind}

-- An entry among these has this status.
pub record HasStatus (entries : List Entry) (status : ℕ) : Type 0 where
  pub before : List Entry
  pub entry : Entry
  pub after : List Entry
  pub cut : entries ≡ before ++ entry ∷ after
  pub is : status ≡ status_of entry.verdict

-- The entries of these files, one each, are written in their order, and this is the status: the
-- greatest of theirs, so 0 exactly where each is a yes, and 4 where one can't be read.
pub record AreWritten (told : Told) (r : CheckRequest) (q : Question) (g : Grounds)
    (files : List (Bor (List ℕ))) (before after : Option (List ℕ)) (status : ℕ) : Type 0 where
  pub entries : List Entry
  pub each : AllZip (λ f e. IsEntry told r q g f.now e) files entries
  pub written : Appends before after (flat_map (λ (e : Entry). string_bytes e.text) entries)
  pub greatest : All (λ e. status_of e.verdict ≤ status) entries
  pub reached : (status ≡ 0) ⊎ HasStatus entries status

-- A beginning of the entry of the first of these files is written, or nothing.
abbrev pub IsBegun : Told → CheckRequest → Question → Grounds → List (Bor (List ℕ))
    → Option (List ℕ) → Option (List ℕ) → Type 0
IsBegun told r q g files before after = Appends before after []
    ⊎ ((name : Bor (List ℕ)) × (others : List (Bor (List ℕ))) × (files ≡ name ∷ others)
    × (e : Entry) × IsEntry told r q g name.now e
    × AppendsFront before after (string_bytes e.text))

-- Where a run is cut, the entries of the first of the files are written whole, and then a beginning
-- of the next one, or nothing.
pub record AreBegun (told : Told) (r : CheckRequest) (q : Question) (g : Grounds)
    (files : List (Bor (List ℕ))) (before after : Option (List ℕ)) : Type 0 where
  pub done : List (Bor (List ℕ))
  pub others : List (Bor (List ℕ))
  pub are : files ≡ done ++ others
  pub middle : Option (List ℕ)
  pub status : ℕ
  pub written : AreWritten told r q g done before middle status
  pub begun : IsBegun told r q g others middle after

-- what is written of files: the entries of all, or, where the run is cut, of the first
abbrev pub IsRunOver : Told → CheckRequest → Question → Grounds → List (Bor (List ℕ))
    → Option (List ℕ) → Option (List ℕ) → ℕ → Type 0
IsRunOver told r q g files before after status =
    (IsCut status × AreBegun told r q g files before after)
    ⊎ AreWritten told r q g files before after status

-- Where a question has no grounds, this is said of these files: in JSON a line for each, which says
-- that it is not good; else once that the issuer is refused, and why.
abbrev pub AreNoLines : Bool → List (Bor (List ℕ)) → List ℕ → Type 0
AreNoLines false files text = (why : List ℕ) × (text ≡ codes "issuer refused: " ++ why)
AreNoLines true files text = (lines : List (List ℕ))
    × AllZip (λ (f : Bor (List ℕ)) (l : List ℕ). IsLine f.now false l) files lines
    × (text ≡ flat_map (λ l. l) lines)

-- what is reported then: where the certificates make no issuer, these lines and the status 1; else
-- the status 2 and no text
abbrev pub IsUngrounded : CheckRequest → Refusal → List ℕ → ℕ → Type 0
IsUngrounded r refusal text status = ((status ≡ 2) × (text ≡ []))
    ⊎ ((status ≡ 1) × IsNoIssuer refusal × AreNoLines r.json r.files.items text)

-- The certificates make no issuer, and not for want of memory; that is written, and the status is
-- 1.
abbrev pub IsWithoutGrounds : CheckRequest → Question → Option (List ℕ) → Option (List ℕ) → ℕ
    → Type 0
IsWithoutGrounds r q before after status = (refusal : Refusal) × HasNoGrounds q refusal
    × IsNoIssuer refusal × (text : List ℕ) × AreNoLines r.json r.files.items text
    × IsPut text 1 before after status

-- The question has grounds, and on them the entries of the files are written.
abbrev pub IsOnGrounds : Told → CheckRequest → Question → Option (List ℕ) → Option (List ℕ) → ℕ
    → Type 0
IsOnGrounds told r q before after status = (g : Grounds) × AreGroundsOf q g
    × IsRunOver told r q g r.files.items before after status

-- What a check of files comes to at this moment, by what the store tells of them: it is stopped
-- before it writes anything; or the question that the request asks has no grounds, and no file is
-- said to be good; or it has, and the entries of the files are written.
abbrev pub IsChecked : Told → CheckRequest → Moment → Option (List ℕ) → Option (List ℕ) → ℕ → Type 0
IsChecked told r moment before after status = (IsStopped status × Appends before after [])
    ⊎ ((q : Question) × IsQuestionOf told r.under moment r.manner q
    × (IsWithoutGrounds r q before after status ⊎ IsOnGrounds told r q before after status))

-- A yes is right of the file of this name: it is of a kind, and the octets that the store tells of
-- it begin with a good one on these grounds, whose content has these lines.
abbrev pub IsGoodFile : Told → CheckRequest → Question → Grounds → List ℕ → Type 0
IsGoodFile told r q g name = (lines : String Global) × IsJudgedFile told r q g name (Yes lines)

-- A yes to a check is right: the question that is asked has grounds, by what the store tells, and on
-- them each file is good.
pub record IsYesOfCheck (told : Told) (r : CheckRequest) (moment : Moment) : Type 0 where
  pub question : Question
  pub is_question : IsQuestionOf told r.under moment r.manner question
  pub grounds : Grounds
  pub are : AreGroundsOf question grounds
  pub each : All (λ f. IsGoodFile told r question grounds f.now) r.files.items

-- A no is right of the file of this name: it is of a kind, and its octets are refused as one; or it
-- is of no kind that is checked.
abbrev pub IsBadFile : Told → CheckRequest → Question → Grounds → List ℕ → Type 0
IsBadFile told r q g name =
    ((cause : String Global) × IsJudgedFile told r q g name (No cause))
    ⊎ ((kind : FileKind) → IsKindOf r.kind name kind → ⊥)

-- the store can't read the file of this name
abbrev pub IsUnreadFile : Told → List ℕ → Type 0
IsUnreadFile told name = (reason : Reason) × IsRead (told name) (Err (Unreadable reason))

-- On grounds, a file is not good, and each that can be read is good or not.
pub record IsNoOn (told : Told) (r : CheckRequest) (question : Question) : Type 0 where
  pub grounds : Grounds
  pub are : AreGroundsOf question grounds
  pub bad : Any (λ f. IsBadFile told r question grounds f.now) r.files.items
  pub each : All (λ f. IsGoodFile told r question grounds f.now
      ⊎ IsBadFile told r question grounds f.now) r.files.items

-- A no to a check is right: the question has no grounds, and not for want of memory; or it has, and
-- on them a file is not good, and none is left unread.
pub record IsNoOfCheck (told : Told) (r : CheckRequest) (moment : Moment) : Type 0 where
  pub question : Question
  pub is_question : IsQuestionOf told r.under moment r.manner question
  pub none : HasNoAnswer question ⊎ IsNoOn told r question

-- If octets are judged bad as a file of this kind, on the grounds of a question, then they begin with
-- no good object of this kind.
abbrev pub SaysBad : {X : Type 0} → FileKind → ObjectKind X → (Question → List ℕ → X → Type 0)
    → Type 0
SaysBad file kind form = (q : Question) (g : Grounds) (octets : List ℕ) (cause : String Global)
    → AreGroundsOf q g → IsJudged q g file octets (No cause) → IsNotGoodFor kind (form q) q octets
