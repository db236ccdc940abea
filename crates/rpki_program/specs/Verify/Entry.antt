-- The entry of a file among those of a check.
use Rattle.std.specs.Prelude.{◌≡◌, ℕ, List, [], ◌∷◌, ◌++◌, ◌==◌, Bool, true, false, not, Ok, Err}
use Rattle.std.specs.Prelude.{String, codes, if◌then◌else◌, length, string_bytes}
use Rattle.std.specs.declared.alloc.Global.{Global}
use Rattle.rpki_cli.specs.Store.{IsRead, Told, reason_text}
use Rattle.rpki_cli.specs.declared.store.Reason.{Reason}
use Rattle.rpki_cli.specs.declared.store.StoreError.TheVariants.{Unreadable}
use Rattle.rpki_validation.specs.declared.grounds.Grounds.{Grounds}
use Rattle.rpki_validation.specs.declared.question.Question.{Question}
use Rattle.rpki_program.specs.Verify.Judged.{IsJudged, is_yes}
use Rattle.rpki_program.specs.Verify.Kinds.{IsKindOf}
use Rattle.rpki_program.specs.Verify.Report.{IsLine, SaysNoYes, SaysNot}
use Rattle.rpki_program.specs.declared.verify.check.entry.Entry.{Entry}
use Rattle.rpki_program.specs.declared.verify.check.entry.Verdict.{Verdict}
use Rattle.rpki_program.specs.declared.verify.check.entry.Verdict.TheVariants as verdicts
use Rattle.rpki_program.specs.declared.verify.check.judged.Judged.{Judged}
use Rattle.rpki_program.specs.declared.verify.check.judged.Judged.TheVariants.{No, Yes}
use Rattle.rpki_program.specs.declared.verify.request.CheckRequest.{CheckRequest}
use Rattle.rpki_program.specs.declared.verify.request.FileKind.{FileKind}

-- the status of a run with a verdict alone
abbrev pub status_of : Verdict → ℕ
status_of verdicts.Yes = 0
status_of verdicts.No = 1
status_of verdicts.Skipped = 1
status_of verdicts.Unreadable = 4

-- what a file comes to of which this is said
abbrev pub verdict_of : Judged → Verdict
verdict_of (Yes lines) = verdicts.Yes
verdict_of (No cause) = verdicts.No

-- ---- texts

-- what is said of a file, in lines
abbrev pub said_of : Judged → List ℕ
said_of (Yes lines) = codes "yes\n" ++ string_bytes lines
said_of (No cause) = string_bytes cause ++ codes "\n"

-- what stands between this octet and those after it, if there are any: two spaces, if it is a line
-- feed
abbrev pub spaces_after : ℕ → List ℕ → List ℕ
spaces_after c [] = []
spaces_after c (d ∷ rest) = if c == 10 then codes "  " else []

-- a text with two spaces after each line feed but one at its end
abbrev pub indented : List ℕ → List ℕ
indented [] = []
indented (c ∷ rest) = c ∷ (spaces_after c rest ++ indented rest)

-- an entry in lines: what is said, among several files after the name of the file and indented
abbrev pub entry_text : Bool → List ℕ → Judged → List ℕ
entry_text true name j = name ++ (codes ": " ++ indented (said_of j))
entry_text false name j = said_of j

-- an entry as a text, in JSON or in lines
abbrev pub IsText : Bool → Bool → List ℕ → Judged → List ℕ → Type 0
IsText true several name j text = IsLine name (is_yes j) text
IsText false several name j text = text ≡ entry_text several name j

-- a no does not begin with `yes`, `skipped` or `cannot be read`
abbrev pub SaysRight : Judged → Type 0
SaysRight (Yes lines) = Unit {0}
SaysRight (No cause) = SaysNoYes (said_of (No cause))
    × SaysNot (codes "skipped") (said_of (No cause))
    × SaysNot (codes "cannot be read") (said_of (No cause))

-- it is no yes, and this is its cause
abbrev pub IsNoFor : List ℕ → Judged → Type 0
IsNoFor cause j = (text : String Global) × (j ≡ No text) × (string_bytes text ≡ cause)

-- ---- entries

-- whether the entries have names
abbrev pub is_several : CheckRequest → Bool
is_several r = not (length r.files.items == 1)

-- the file of this name is of a kind, and this is said of the octets that the store tells of it
pub record IsJudgedFile (told : Told) (r : CheckRequest) (q : Question) (g : Grounds)
    (name : List ℕ) (j : Judged) : Type 0 where
  pub kind : FileKind
  pub is_kind : IsKindOf r.kind name kind
  pub octets : List ℕ
  pub is_read : IsRead (told name) (Ok octets)
  pub judged : IsJudged q g kind octets j

-- This is the entry of a file of this name, kind and octets: what is said of it (`IsJudged`), as a
-- text.
pub record HasEntry (r : CheckRequest) (q : Question) (g : Grounds) (name : List ℕ)
    (kind : FileKind) (octets : List ℕ) (e : Entry) : Type 0 where
  pub judged : Judged
  pub is : IsJudged q g kind octets judged
  pub says : SaysRight judged
  pub text : IsText r.json (is_several r) name judged (string_bytes e.text)
  pub verdict : e.verdict ≡ verdict_of judged

-- Of the file of this name such a verdict is right, where this is said of it: a yes or a no by its
-- kind and the octets that the store tells of it; or that it can't be read, and why, or is of no kind
-- that is checked.
abbrev pub IsVerdict : Told → CheckRequest → Question → Grounds → List ℕ → Judged → Verdict → Type 0
IsVerdict told r q g name j verdicts.Yes = (is_yes j ≡ true) × IsJudgedFile told r q g name j
IsVerdict told r q g name j verdicts.No =
    (is_yes j ≡ false) × SaysRight j × IsJudgedFile told r q g name j
IsVerdict told r q g name j verdicts.Unreadable =
    (reason : Reason) × IsNoFor (codes "cannot be read" ++ reason_text reason) j
    × IsRead (told name) (Err (Unreadable reason))
IsVerdict told r q g name j verdicts.Skipped = IsNoFor (codes "skipped: no kind that is checked") j
    × ((kind : FileKind) → IsKindOf r.kind name kind → ⊥)

-- This is the entry of the file of this name: what is said of it, as a text, and its verdict.
pub record IsEntry (told : Told) (r : CheckRequest) (q : Question) (g : Grounds) (name : List ℕ)
    (e : Entry) : Type 0 where
  pub judged : Judged
  pub text : IsText r.json (is_several r) name judged (string_bytes e.text)
  pub verdict : IsVerdict told r q g name judged e.verdict
