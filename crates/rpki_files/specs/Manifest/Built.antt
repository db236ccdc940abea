-- Contents of manifests that are built. The sections are those of RFC 9286.
use Rattle.std.specs.Prelude.{◌≡◌, ◌≤◌, ◌<◌, ◌^◌, ℕ, List, [], ◌∷◌, ◌++◌, All, Option}
use Rattle.std.specs.Prelude.{length, map, true}
use Rattle.std.specs.Iterator.{Drains}
use Rattle.std.specs.List.{list_all}
use Rattle.rpki_basics.specs.Moment.{Moment, stamp}
use Rattle.rpki_basics.specs.declared.build.BuildError.{BuildError}
use Rattle.rpki_basics.specs.declared.build.BuildError.TheVariants as error
use Rattle.rpki_basics.specs.declared.build.BuildFault.{BuildFault}
use Rattle.rpki_basics.specs.declared.build.BuildFault.TheVariants as fault
use Rattle.rpki_basics.specs.declared.limits.ManifestRule.{ManifestRule}
use Rattle.rpki_basics.specs.declared.limits.ManifestRule.TheVariants.{Any, Registered}
use Rattle.rpki_der.specs.Form.Keyed.{AreDistinct}
use Rattle.rpki_faults.specs.Checks.{Check, ◌unless◌, AllHold, IsFirstFault}
use Rattle.rpki_files.specs.declared.manifest.file.FileAndHash.{FileAndHash}
use Rattle.rpki_files.specs.Manifest.Files.{File, name_of}
use Rattle.rpki_files.specs.Manifest.{Manifest, manifest_contents}
use Rattle.rpki_files.specs.Name.{IsFileName, is_registered}

-- the file that an entry means, by what its name and its hash mean
abbrev pub meant : {F H : Type 0} → (F → List ℕ) → (H → List ℕ) → FileAndHash F H → File
meant name hash f = record { file = name f.file; hash = hash f.hash }

-- an iterator gives entries that mean these files, in their order, and then nothing
abbrev pub Gives : {S F H : Type 0} → (S → Option (FileAndHash F H) → S → Type 0)
    → (F → List ℕ) → (H → List ℕ) → S → List File → Type 0
Gives {S} {F} {H} steps name hash iter files =
    (given : List (FileAndHash F H)) × Drains steps iter given
    × (files ≡ map (meant name hash) given)

-- A content with this number, these times, and files that are given.
pub record IsContentOf (number : ℕ) (this next : Moment) (AreGiven : List File → Type 0)
    (m : Manifest) : Type 0 where
  pub numbered : m.number ≡ number
  pub this_update : m.this_update ≡ this
  pub next_update : m.next_update ≡ next
  pub files : AreGiven m.files

-- what the rule asks of each name
abbrev pub type_checks : ManifestRule → List File → List (Check BuildFault)
type_checks Any files = []
type_checks Registered files =
    (fault.BadExtension unless (list_all (λ f. is_registered (name_of f)) files ≡ true)) ∷ []

-- what the rule asks of all names together
abbrev pub repeat_checks : ManifestRule → List File → List (Check BuildFault)
repeat_checks Any files = []
repeat_checks Registered files = (fault.RepeatedName unless AreDistinct name_of files) ∷ []

-- what is asked of each name, in the order in which it is looked at (4.2.2)
abbrev pub name_checks : ManifestRule → List File → List (Check BuildFault)
name_checks rule files =
    (fault.BadName unless All (λ (f : File). IsFileName (name_of f)) files)
    ∷ type_checks rule files

-- what is asked of files, in the order in which it is looked at
abbrev pub file_checks : ManifestRule → List File → List (Check BuildFault)
file_checks rule files = name_checks rule files ++ repeat_checks rule files

-- what is asked of a content before it is looked at whether it is too long (4.2.1)
abbrev pub early_checks : ManifestRule → Manifest → List (Check BuildFault)
early_checks rule m =
    (fault.UpdateOrder unless (stamp m.this_update ≤ stamp m.next_update))
    ∷ name_checks rule m.files

-- what is asked of a content, in the order in which it is looked at
abbrev pub manifest_checks : ManifestRule → Manifest → List (Check BuildFault)
manifest_checks rule m = early_checks rule m ++ repeat_checks rule m.files

-- Why a content is not built: the first check that does not hold of what was asked for; or all but
-- that of repeated names hold, and it has contents of 2^32 octets or more; or memory ran out.
abbrev pub IsNotBuilt : ManifestRule → (Manifest → Type 0) → BuildError → Type 0
IsNotBuilt rule IsAsked (error.Fault fault) =
    (m : Manifest) × IsAsked m × IsFirstFault (manifest_checks rule m) fault
IsNotBuilt rule IsAsked error.TooLong =
    (m : Manifest) × IsAsked m × AllHold (early_checks rule m)
    × ¬ (length (manifest_contents m) < 2 ^ 32)
IsNotBuilt rule IsAsked error.Memory = Unit {0}
