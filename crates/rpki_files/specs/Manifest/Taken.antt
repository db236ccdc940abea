-- Entries of a content that is built, one after the other.
use Rattle.std.specs.Prelude.{◌≡◌, ◌<◌, ◌^◌, List, length, true, false}
use Rattle.std.specs.List.{list_all}
use Rattle.rpki_basics.specs.declared.build.BuildError.{BuildError}
use Rattle.rpki_basics.specs.declared.build.BuildError.TheVariants as error
use Rattle.rpki_basics.specs.declared.limits.ManifestRule.{ManifestRule}
use Rattle.rpki_faults.specs.Checks.{AllHold, IsFirstFault}
use Rattle.rpki_files.specs.declared.manifest.builder.entries.Entries.{Entries}
use Rattle.rpki_files.specs.Manifest.Files.{File, name_of, is_allowed}
use Rattle.rpki_files.specs.Manifest.{files_octets}
use Rattle.rpki_files.specs.Manifest.Built.{file_checks, name_checks}
use Rattle.rpki_files.specs.Name.{is_file_name}

-- These entries were taken: whether each name is that of a file, and allowed; and their octets,
-- where each has few.
pub record AreTaken (rule : ManifestRule) (e : Entries) (files : List File) : Type 0 where
  pub named : e.named ≡ list_all (λ f. is_file_name (name_of f)) files
  pub allowed : e.allowed ≡ list_all (λ f. is_allowed rule (name_of f)) files
  pub written : e.short ≡ true → e.octets.items ≡ files_octets files
  pub long : e.short ≡ false → ¬ (length (files_octets files) < 2 ^ 32)

-- Why entries are not listed: the first check that does not hold; or all but that of repeated names
-- hold, and they have 2^32 octets or more; or memory ran out.
abbrev pub AreNotListed : ManifestRule → List File → BuildError → Type 0
AreNotListed rule files (error.Fault fault) = IsFirstFault (file_checks rule files) fault
AreNotListed rule files error.TooLong =
    AllHold (name_checks rule files) × ¬ (length (files_octets files) < 2 ^ 32)
AreNotListed rule files error.Memory = Unit {0}
