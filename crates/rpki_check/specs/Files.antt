-- The files that contents name, in rows.
use Rattle.std.specs.Prelude.{◌≡◌, ◌⊎◌, ℕ, ◌+◌, List, [], ◌∷◌, ◌++◌, length, map}
use Rattle.std.specs.Prelude.{Option, None, Some, Result, Ok, Err}
use Rattle.std.specs.List.{flat_map}
use Rattle.rpki_files.specs.Checklist.{Checklist}
use Rattle.rpki_files.specs.Manifest.{Manifest}
use Rattle.rpki_sigobj.specs.Signed.Kind.{ObjectKind}
use Rattle.rpki_check.specs.Numbers.{no_memory, refusal_number}
use Rattle.rpki_check.specs.Object.{IsFound}
use Rattle.rpki_check.specs.Room.{IsInRoom}
use Rattle.rpki_check.specs.declared.files.Entry.{Entry}
use Rattle.rpki_check.specs.declared.files.Table.{Table}
use Rattle.rpki_check.specs.declared.question.Question.{Question}
use Rattle.rpki_check.specs.declared.refusal.Refusal.{Refusal}

-- a file: its name, if it has one, and its hash
abbrev pub Named : Type 0
Named = Option (List ℕ) × List ℕ

-- the octets of a name, if there is one
abbrev pub name_octets : Option (List ℕ) → List ℕ
name_octets None = []
name_octets (Some name) = name

-- 1 where there is a name, and else 0
abbrev pub is_named : Option (List ℕ) → ℕ
is_named None = 0
is_named (Some name) = 1

-- the octets of a file: those of its name, and then those of its hash
abbrev pub file_octets : Named → List ℕ
file_octets f = name_octets f.0 ++ f.1

-- the row of a file whose octets stand at this place
abbrev pub entry_at : ℕ → Named → Entry
entry_at at f = record {
  name = at;
  name_length = length (name_octets f.0);
  hash = at + length (name_octets f.0);
  hash_length = length f.1;
  named = is_named f.0;
}

-- the rows of files whose octets stand one after the other from this place on
abbrev pub entries_at : ℕ → List Named → List Entry
entries_at at [] = []
entries_at at (f ∷ files) = entry_at at f ∷ entries_at (at + length (file_octets f)) files

-- the files that a manifest lists
abbrev pub listed_files : Manifest → List Named
listed_files m = map (λ f. (Some f.file, f.hash)) m.files

-- the files that a checklist lists
abbrev pub checked_files : Checklist → List Named
checked_files l = map (λ f. (f.file_name, f.hash)) l.files

-- This is the table of the files: their rows, and their octets.
pub record IsTable (t : Table) (files : List Named) : Type 0 where
  pub rows : t.rows.items ≡ entries_at 0 files
  pub octets : t.octets.items ≡ flat_map file_octets files

-- A file is appended to a table.
pub record IsPushed (old new : Table) (f : Named) : Type 0 where
  pub row : new.rows.items ≡ old.rows.items ++ entry_at (length old.octets.items) f ∷ []
  pub octets : new.octets.items ≡ old.octets.items ++ file_octets f

-- What a call leaves in its two rooms: these rows, and these octets.
pub record AreWritten (rows old new : List Entry) (count : ℕ) (octets before after : List ℕ)
    (len : ℕ) : Type 0 where
  pub in_room : IsInRoom rows old new count
  pub in_place : IsInRoom octets before after len

-- What a call leaves where this is found: its status, with the table of the files, or with none
-- where there is none; or that memory ran out.
abbrev pub AreFilesPut : {X : Type 0} → (X → List Named) → Result X Refusal → List Entry → List Entry
    → ℕ → List ℕ → List ℕ → ℕ → ℕ → Type 0
AreFilesPut files (Ok x) old new count before after len status =
    ((status ≡ no_memory) × AreWritten [] old new count [] before after len)
    ⊎ ((status ≡ 0) × AreWritten (entries_at 0 (files x)) old new count
    (flat_map file_octets (files x)) before after len)
AreFilesPut files (Err refusal) old new count before after len status =
    (status ≡ refusal_number refusal) × AreWritten [] old new count [] before after len

-- What a call leaves that asks for the files of the object at the front of octets.
abbrev pub IsFilesCall : {X : Type 0} → ObjectKind X → (List ℕ → X → Type 0) → (X → List Named)
    → Question → List ℕ → List Entry → List Entry → ℕ → List ℕ → List ℕ → ℕ → ℕ → Type 0
IsFilesCall {X} kind form files q object old new count before after len status =
    (found : Result X Refusal) × IsFound kind form q object found
    × AreFilesPut files found old new count before after len status
