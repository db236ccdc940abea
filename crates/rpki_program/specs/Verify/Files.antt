-- The files that a manifest or a checklist lists, and those of a folder.
use Rattle.std.specs.Prelude.{◌≡◌, ◌==◌, ◌⊎◌, ℕ, List, [], ◌∷◌, ◌++◌, All, Any, Bool, true, false}
use Rattle.std.specs.Prelude.{Option, None, Some, Result, Ok, Err, IfSome, IsTrue, codes, map, string_bytes}
use Rattle.std.specs.Str.{IsUtf8}
use Rattle.sha2.specs.Sha256.{sha256}
use Rattle.rpki_basics.specs.Moment.{Moment}
use Rattle.rpki_cli.specs.Store.{IsRead, Told}
use Rattle.rpki_cli.specs.declared.store.Reason.{Reason}
use Rattle.rpki_cli.specs.declared.store.Reason.TheVariants.{NotFound}
use Rattle.rpki_cli.specs.declared.store.StoreError.TheVariants.{Unreadable}
use Rattle.rpki_der.specs.declared.mode.Mode.TheVariants.{Der}
use Rattle.rpki_files.specs.Checklist.{Checklist, ChecklistForm}
use Rattle.rpki_files.specs.Checklist.Checks.{checklist_kind}
use Rattle.rpki_files.specs.Manifest.{Manifest, ManifestForm}
use Rattle.rpki_files.specs.Manifest.Checks.{manifest_kind}
use Rattle.rpki_lists.specs.Slice.{seen}
use Rattle.rpki_sigobj.specs.Object.{mode_of}
use Rattle.rpki_validation.specs.Grounds.{AreGroundsOf}
use Rattle.rpki_validation.specs.Object.{IsFoundOn}
use Rattle.rpki_validation.specs.Refusal.{is_memory}
use Rattle.rpki_validation.specs.declared.grounds.Grounds.{Grounds}
use Rattle.rpki_validation.specs.declared.question.Question.{Question}
use Rattle.rpki_validation.specs.declared.refusal.Refusal.{Refusal}
use Rattle.rpki_program.specs.Verify.Inputs.{HasNoAnswer, IsQuestionOf}
use Rattle.rpki_program.specs.Verify.Kinds.{IsNameOf}
use Rattle.rpki_program.specs.Verify.Report.{IsAnswer, IsNoIssuer, IsNoUnlessZero, IsRight, IsStopped}
use Rattle.rpki_program.specs.declared.verify.folders.Folder.{Folder as Paths}
use Rattle.rpki_program.specs.declared.verify.folders.State.{State}
use Rattle.rpki_program.specs.declared.verify.folders.State.TheVariants as states
use Rattle.rpki_program.specs.declared.verify.folders.State.TheVariants.{Differs, Held, Missing}
use Rattle.rpki_program.specs.declared.verify.folders.Wanted.{Wanted}
use Rattle.rpki_program.specs.declared.verify.request.FileKind.{FileKind}
use Rattle.rpki_program.specs.declared.verify.request.FileKind.TheVariants as kinds
use Rattle.rpki_program.specs.declared.verify.request.FilesRequest.{FilesRequest}

-- a file that is listed: its name, if it has one, and its hash
abbrev pub Listed : Type 0
Listed = Option (List ℕ) × List ℕ

-- the same, as it is held
abbrev pub named_of : Wanted → Listed
named_of w = (seen (λ n. n.now) w.name, w.hash.now)

-- the files that a manifest lists
abbrev pub listed : Manifest → List Listed
listed m = map (λ f. (Some f.file, f.hash)) m.files

-- the files that a checklist lists
abbrev pub checked : Checklist → List Listed
checked l = map (λ f. (f.file_name, f.hash)) l.files

-- the name of the file of a folder with this name
abbrev pub path_in : List ℕ → List ℕ → List ℕ
path_in folder name = folder ++ (codes "/" ++ name)

-- what a system may tell of a folder: the names of its files
abbrev pub Named : Type 1
Named = List ℕ → List (List ℕ) → Type 0

-- a folder: its name, what the store tells of its files, or any octets where it tells nothing, and
-- the names that the system told of them
pub record Folder : Type 0 where
  pub told : Told
  pub name : List ℕ
  pub files : List (List ℕ)

-- the folder of this path and with files of these names
abbrev pub folder_with : Told → Paths → Folder
folder_with told p = record {
  told = told;
  name = p.path.now;
  files = map string_bytes p.names.now;
}

-- the folder has a file with this name and this hash
abbrev pub HasFile : Folder → List ℕ → List ℕ → Type 0
HasFile f hash name = (octets : List ℕ)
    × IsRead (f.told (path_in f.name name)) (Ok octets) × (sha256 octets ≡ hash)

-- the folder's file of this name has another hash, or there is none, or the name is not UTF-8
abbrev pub LacksFile : Folder → List ℕ → List ℕ → Type 0
LacksFile f hash name =
    ((octets : List ℕ) × IsRead (f.told (path_in f.name name)) (Ok octets)
    × (¬ (sha256 octets ≡ hash)))
    ⊎ (IsRead (f.told (path_in f.name name)) (Err (Unreadable NotFound)) ⊎ (¬ IsUtf8 name))

-- it has one with this name, which can't be read
abbrev pub CannotRead : Folder → Reason → List ℕ → Type 0
CannotRead f reason name = IsRead (f.told (path_in f.name name)) (Err (Unreadable reason))

-- The folder has a file that is listed: one with its name, or with any of the names that the system
-- told where it has none, and with its hash (RFC 9286, section 6.5; RFC 9323, section 5).
abbrev pub IsHeld : Folder → Listed → Type 0
IsHeld f (Some name, hash) = HasFile f hash name
IsHeld f (None, hash) = Any (HasFile f hash) f.files

-- It lacks a file that is listed: that with its name, or, where it has none, each that the system
-- named.
abbrev pub IsLacking : Folder → Listed → Type 0
IsLacking f (Some name, hash) = LacksFile f hash name
IsLacking f (None, hash) = All (LacksFile f hash) f.files

-- A file can't be read that may be the listed one: that with its name, or, where it has none, one
-- that the system named.
abbrev pub IsUnread : Folder → Listed → Reason → Type 0
IsUnread f (Some name, hash) reason = CannotRead f reason name
IsUnread f (None, hash) reason = Any (CannotRead f reason) f.files

-- what the folder has of a file that is listed
abbrev pub IsState : Folder → Listed → State → Type 0
IsState f listed Held = IsHeld f listed
IsState f listed Differs = IsLacking f listed
IsState f listed Missing = IsLacking f listed
IsState f listed (states.Unreadable reason) = IsUnread f listed reason

-- what the folder has of a file without a name: whether its digest is among those of the files, and
-- why one of them can't be read, if one can't
abbrev pub IsUnnamedState : Bool → Option Reason → State → Type 0
IsUnnamedState known unread Held = known ≡ true
IsUnnamedState known unread Missing = (known ≡ false) × (unread ≡ None)
IsUnnamedState known unread (states.Unreadable reason) = unread ≡ Some reason
IsUnnamedState known unread Differs = ⊥

-- what a file with these octets is, where one with this hash is wanted
abbrev pub IsStateOf : List ℕ → List ℕ → State → Type 0
IsStateOf octets hash Held = sha256 octets ≡ hash
IsStateOf octets hash Differs = ¬ (sha256 octets ≡ hash)
IsStateOf octets hash state = ⊥

-- the status of a check with a file alone of which a folder has this
abbrev pub status_of : State → ℕ
status_of Held = 0
status_of Differs = 1
status_of Missing = 1
status_of (states.Unreadable reason) = 4

-- The status says what the folder has of these files: it is 0 only where each is held, 1 only where
-- one is lacking, and 4 only where one can't be read; and no other.
pub record AreHeld (f : Folder) (files : List Listed) (status : ℕ) : Type 0 where
  pub held : status ≡ 0 → All (IsHeld f) files
  pub lacking : status ≡ 1 → Any (IsLacking f) files
  pub unread : status ≡ 4 → Any (λ l. (reason : Reason) × IsUnread f l reason) files
  pub known : (status ≡ 0) ⊎ ((status ≡ 1) ⊎ (status ≡ 4))

-- The digests are those of the files of the folder that can be read, and this is why another can't
-- be, if one can't.
pub record AreDigests (f : Folder) (has : List ℕ → Bool) (unread : Option Reason) : Type 0 where
  pub held : (hash : List ℕ) → IsTrue (has hash) → Any (HasFile f hash) f.files
  pub lacking : unread ≡ None → (hash : List ℕ) → ¬ IsTrue (has hash)
      → All (LacksFile f hash) f.files
  pub unreadable : IfSome unread (λ reason. Any (CannotRead f reason) f.files)

-- the same folder, where these are its files
abbrev pub with_files : Folder → List (List ℕ) → Folder
with_files f files = record { told = f.told; name = f.name; files = files }

-- why a file can't be read, with one more that can't be for this reason; one that is not there is
-- none
abbrev pub unread_with : Option Reason → Reason → Option Reason
unread_with unread NotFound = unread
unread_with unread reason = Some reason

-- Digests of files become those of one file more.
abbrev pub HasOneMore : Folder → List ℕ → (List ℕ → Bool) → Option Reason → (List ℕ → Bool)
    → Option Reason → Type 0
HasOneMore f name has unread has2 unread2 = (files : List (List ℕ))
    → AreDigests (with_files f files) has unread
    → AreDigests (with_files f (files ++ name ∷ [])) has2 unread2

-- ---- the object

-- what is found on these grounds of octets that are to begin with a manifest
abbrev pub IsManifest : FilesRequest → Grounds → List ℕ → Result Manifest Refusal → Type 0
IsManifest r g octets found = IsFoundOn manifest_kind (ManifestForm r.manner.names Der)
    (mode_of r.manner.strict) g octets found

-- the same of a checklist
abbrev pub IsChecklist : FilesRequest → Grounds → List ℕ → Result Checklist Refusal → Type 0
IsChecklist r g octets found =
    IsFoundOn checklist_kind (ChecklistForm Der) (mode_of r.manner.strict) g octets found

-- On these grounds the octets begin with a good object of this kind, and of the folder such is so of
-- the files that it lists.
abbrev pub IsGoodWith : FilesRequest → Grounds → FileKind → List ℕ → (List Listed → Type 0) → Type 0
IsGoodWith r g kinds.Manifest octets Such =
    (m : Manifest) × IsManifest r g octets (Ok m) × Such (listed m)
IsGoodWith r g kinds.Checklist octets Such =
    (l : Checklist) × IsChecklist r g octets (Ok l) × Such (checked l)
IsGoodWith r g kind octets Such = ⊥

-- They are refused as one of this kind, and not for want of memory.
abbrev pub IsRefused : FilesRequest → Grounds → FileKind → List ℕ → Type 0
IsRefused r g kinds.Manifest octets =
    (refusal : Refusal) × IsManifest r g octets (Err refusal) × (is_memory refusal ≡ false)
IsRefused r g kinds.Checklist octets =
    (refusal : Refusal) × IsChecklist r g octets (Err refusal) × (is_memory refusal ≡ false)
IsRefused r g kind octets = ⊥

-- ---- the answer

-- it is a no
abbrev pub IsNo : FilesRequest → List ℕ → ℕ → Type 0
IsNo r text status = (status ≡ 1) × IsAnswer r.json r.object.now false text

-- there is none: the run is stopped, and nothing is said
abbrev pub IsNoAnswer : List ℕ → ℕ → Type 0
IsNoAnswer text status = IsStopped status × (text ≡ [])

-- this is said of a good object, of whose files a folder has what has this status
abbrev pub IsSaidOf : FilesRequest → ℕ → List ℕ → ℕ → Type 0
IsSaidOf r compared text status =
    (status ≡ compared) × IsAnswer r.json r.object.now (compared == 0) text

-- where a question has no grounds for this: a no only where the certificates make no issuer
abbrev pub IsUngrounded : FilesRequest → Refusal → List ℕ → ℕ → Type 0
IsUngrounded r refusal text status =
    IsNoAnswer text status ⊎ (IsNo r text status × IsNoIssuer refusal)

-- what is reported of an object of this kind with these octets: it is refused, or good, and the
-- folder has its files or not
abbrev pub IsObjectReport : FilesRequest → Grounds → Folder → FileKind → List ℕ → List ℕ → ℕ → Type 0
IsObjectReport r g f kind octets text status =
    (IsNo r text status × IsRefused r g kind octets)
    ⊎ ((compared : ℕ) × IsSaidOf r compared text status
    × IsGoodWith r g kind octets (λ files. AreHeld f files compared))

-- The object is a file of this kind by its name, and the store tells these octets of it, or any
-- where it tells nothing.
pub record IsObject (told : Told) (r : FilesRequest) (kind : FileKind) (octets : List ℕ) : Type 0
  where
    pub named : IsNameOf r.object.now kind
    pub is_read : IsRead (told r.object.now) (Ok octets)

-- the folder of the request, with names that the system may tell
abbrev pub folder_of : Told → FilesRequest → List (List ℕ) → Folder
folder_of told r names = record { told = told; name = r.folder.now; files = names }

-- the same of such an object and such a folder, unless the run is stopped
abbrev pub IsFilesReportOn : Told → Named → FilesRequest → Grounds → List ℕ → ℕ → Type 0
IsFilesReportOn told named r g text status = IsNoAnswer text status
    ⊎ ((kind : FileKind) × (octets : List ℕ) × IsObject told r kind octets
    × (names : List (List ℕ)) × named r.folder.now names
    × IsObjectReport r g (folder_of told r names) kind octets text status)

-- The question that is asked has grounds, by what the store tells; the object is a file of a kind;
-- the system names the files of the folder; and such is so.
pub record IsAskedOf (told : Told) (named : Named) (r : FilesRequest) (moment : Moment)
    (Such : Grounds → Folder → FileKind → List ℕ → Type 0) : Type 0 where
  pub question : Question
  pub is_question : IsQuestionOf told r.under moment r.manner question
  pub grounds : Grounds
  pub are : AreGroundsOf question grounds
  pub kind : FileKind
  pub octets : List ℕ
  pub object : IsObject told r kind octets
  pub names : List (List ℕ)
  pub are_named : named r.folder.now names
  pub such : Such grounds (folder_of told r names) kind octets

-- A yes to a check of files is right: the object is good, and its files are all held.
abbrev pub IsYesOfFiles : Told → Named → FilesRequest → Moment → Type 0
IsYesOfFiles told named r moment = IsAskedOf told named r moment
    (λ g f kind octets. IsGoodWith r g kind octets (All (IsHeld f)))

-- A no is right: the certificates make no issuer, and not for want of memory; or the object is refused;
-- or it is good, and the folder lacks one of its files.
abbrev pub IsNoOfFiles : Told → Named → FilesRequest → Moment → Type 0
IsNoOfFiles told named r moment =
    ((q : Question) × IsQuestionOf told r.under moment r.manner q × HasNoAnswer q)
    ⊎ IsAskedOf told named r moment (λ g f kind octets. IsRefused r g kind octets
    ⊎ IsGoodWith r g kind octets (Any (IsLacking f)))

-- what a check of files reports
pub record IsFilesReport (told : Told) (named : Named) (r : FilesRequest) (moment : Moment)
    (text : List ℕ) (status : ℕ) : Type 0 where
  pub right : IsRight (IsYesOfFiles told named r moment) (IsNoOfFiles told named r moment) status
  pub yes_text : status ≡ 0 → IsAnswer r.json r.object.now true text
  pub no_text : IsNoUnlessZero r.json r.object.now text status
