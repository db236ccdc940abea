-- What a command answers, how it is written, and what a status says.
use Rattle.std.specs.Prelude.{◌≡◌, ◌⊎◌, ◌≤◌, ℕ, List, [], ◌++◌, Bool, true, false, Result, Ok, Err}
use Rattle.std.specs.Prelude.{Option, Some, String, codes, string_bytes, string_cmp}
use Rattle.json.specs.Lex.{tokens}
use Rattle.json.specs.Print.{print}
use Rattle.std.specs.BTreeMap.{BTreeMap, IsOrdered}
use Rattle.std.specs.Io.KnownBytes.{Appends}
use Rattle.std.specs.declared.alloc.AllocError.{AllocError}
use Rattle.std.specs.declared.alloc.Global.{Global}
use Rattle.serde_json.specs.Data.{boolean, object, string}
use Rattle.serde_json.specs.Find.{get_member}
use Rattle.serde_json.specs.View.{members_view}
use Rattle.serde_json.specs.Written.{IsInOrder}
use Rattle.serde_json.specs.declared.value.Value.{Value}
use Rattle.rpki_cli.specs.Answer.{Run}
use Rattle.rpki_der.specs.Write.Sink.{AppendsFront}
use Rattle.rpki_validation.specs.Refusal.{is_memory_at_issuer}
use Rattle.rpki_validation.specs.declared.refusal.Refusal.{Refusal}
use Rattle.rpki_validation.specs.declared.refusal.Refusal.TheVariants.{Issuer}
use Rattle.rpki_program.specs.declared.verify.report.Report.{Report}

-- ---- statuses

-- The status says that the run was cut: what was asked is wrong, or a write failed; or for want of
-- memory.
abbrev pub IsCut : ℕ → Type 0
IsCut status = (status ≡ 2) ⊎ (status ≡ 3)

-- the run was cut, or a file that is needed can't be read
abbrev pub IsStopped : ℕ → Type 0
IsStopped status = (status ≡ 2) ⊎ ((status ≡ 3) ⊎ (status ≡ 4))

-- The status is right: 0 only where this is a yes, and 1 only where it is a no; and it is none but
-- those that have a meaning.
pub record IsRight (Yes No : Type 0) (status : ℕ) : Type 0 where
  pub yes : status ≡ 0 → Yes
  pub no : status ≡ 1 → No
  pub known : status ≤ 4

-- ---- texts

-- a text that does not begin so
abbrev pub SaysNot : List ℕ → List ℕ → Type 0
SaysNot front text = (rest : List ℕ) → text ≡ front ++ rest → ⊥

-- a text that is no yes: it does not begin with `yes`
abbrev pub SaysNoYes : List ℕ → Type 0
SaysNoYes text = SaysNot (codes "yes") text

-- The text is the line of an object of JSON (RFC 8259) with these members: their names ascend, so
-- that each is there once, and no white space stands between its parts.
pub record IsLineOf (members : BTreeMap (String Global) Value) (text : List ℕ) : Type 0 where
  pub ascend : IsOrdered string_cmp members
  pub line : List ℕ
  pub text_is : text ≡ line ++ codes "\n"
  pub is_text : IsInOrder line (object (members_view members.entries))
  pub is_dense : line ≡ print (tokens line)

-- The text is such a line, of the file of this name: its member `file` is the name, and its member
-- `valid` says whether it is a yes.
pub record IsLine (name : List ℕ) (valid : Bool) (text : List ℕ) : Type 0 where
  pub members : BTreeMap (String Global) Value
  pub is_line : IsLineOf members text
  pub file_is : get_member (codes "file") (members_view members.entries) ≡ Some (string name)
  pub valid_is : get_member (codes "valid") (members_view members.entries) ≡ Some (boolean valid)

-- the text of an answer for the file of this name: in JSON such a line; else a yes begins with the
-- line `yes`, and a no does not
abbrev pub IsAnswer : Bool → List ℕ → Bool → List ℕ → Type 0
IsAnswer true name good text = IsLine name good text
IsAnswer false name true text = (rest : List ℕ) × (text ≡ codes "yes\n" ++ rest)
IsAnswer false name false text = SaysNoYes text

-- where the status is not 0, the text is that of a no, or there is none
abbrev pub IsNoUnlessZero : Bool → List ℕ → List ℕ → ℕ → Type 0
IsNoUnlessZero json name text status =
    (status ≡ 0) ⊎ ((text ≡ []) ⊎ IsAnswer json name false text)

-- certificates make no issuer, and not for want of memory
abbrev pub IsNoIssuer : Refusal → Type 0
IsNoIssuer (Issuer fault) = is_memory_at_issuer fault ≡ false
IsNoIssuer other = ⊥

-- where a question has no grounds for this: in lines a no, where the certificates make no issuer; or
-- else the status 2 and no text
abbrev pub IsRefused : Refusal → List ℕ → ℕ → Type 0
IsRefused refusal text status = ((status ≡ 2) × (text ≡ []))
    ⊎ ((status ≡ 1) × SaysNoYes text × IsNoIssuer refusal)

-- ---- what is written

-- nothing is written on standard output
abbrev pub IsSilent : Run → Type 0
IsSilent run = Appends run.out_before.0 run.out_after.0 []

-- The text is written whole, with the wanted status, or with 2 where a write of something else has
-- failed; or a beginning of it is, and the status is 2.
abbrev pub IsPut : List ℕ → ℕ → Option (List ℕ) → Option (List ℕ) → ℕ → Type 0
IsPut text wanted before after status =
    (Appends before after text × ((status ≡ wanted) ⊎ (status ≡ 2)))
    ⊎ (AppendsFront before after text × (status ≡ 2))

-- Where a write fails, the status is 2; where that is one on standard output, standard error is left
-- alone.
pub record EndsAtFailure (run : Run) : Type 0 where
  pub out : (run.out_after.1 ≡ run.out_before.1)
      ⊎ ((run.status ≡ 2) × (run.err_after ≡ run.err_before))
  pub err : (run.err_after.1 ≡ run.err_before.1) ⊎ (run.status ≡ 2)

-- A report is written on standard output, and its status is given; that memory ran out has no
-- report.
abbrev pub IsSaid : Result Report AllocError → Run → Type 0
IsSaid (Ok r) run =
    IsPut (string_bytes r.out) r.status run.out_before.0 run.out_after.0 run.status
IsSaid (Err error) run = IsCut run.status × IsSilent run

-- The run is cut before it writes anything; or it writes such a text, which goes with such a status.
abbrev pub IsWritten : (List ℕ → ℕ → Type 0) → Run → Type 0
IsWritten Says run = (IsCut run.status × IsSilent run)
    ⊎ ((text : List ℕ) × (wanted : ℕ) × Says text wanted
    × IsPut text wanted run.out_before.0 run.out_after.0 run.status)
