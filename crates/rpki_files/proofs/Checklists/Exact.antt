-- Checklists and their files are read exactly: a line for each field.
use Rattle.std.proofs.Common.{◌≡◌, ℕ, List, Option, Some, None, refl}
use Rattle.rpki_der.specs.Numbers.{MAX_DEPTH}
use Rattle.rpki_der.specs.Tags.{SEQUENCE, IA5_STRING, context}
use Rattle.rpki_der.specs.declared.mode.Mode.{Mode}
use Rattle.rpki_der.specs.Read.Parse.{Parser, ◌>>=◌, optional}
use Rattle.rpki_der.specs.Read.Exact.{IsReading}
use Rattle.rpki_der.specs.Form.Law.{nothing, is, IsPart}
use Rattle.rpki_der.specs.Form.Made.{Made}
use Rattle.rpki_der.specs.Form.Parts.{sequence_at}
use Rattle.rpki_der.proofs.Form.Fields.{field, fixed, skipped, done, within}
use Rattle.rpki_der.proofs.Form.Kinds.{ia5-part, octets-part}
use Rattle.rpki_der.proofs.Form.Words.{in-tag, pass, option}
use Rattle.rpki_basics.specs.Algorithm.{digest_algorithm_at}
use Rattle.rpki_basics.proofs.Algorithms.Parts.{digest-part}
use Rattle.rpki_lists.specs.Entries.{list_at}
use Rattle.rpki_lists.specs.Named.{Set, Sets, sets_of, sets_at}
use Rattle.rpki_lists.proofs.Exact.{list-part, part-spelt}
use Rattle.rpki_lists.specs.Version.{version_at}
use Rattle.rpki_lists.proofs.Names.Exact.{resource-block-part}
use Rattle.rpki_lists.proofs.Versions.{version-part}
use Rattle.rpki_resources.proofs.AsNumbers.Exact.{as-part}
use Rattle.rpki_files.specs.Checklist.Files.{Checked, PortableForm, CheckedForm, is_portable_name}
use Rattle.rpki_files.specs.Checklist.Files.{portable_at, checked_fields_at, checked_at}
use Rattle.rpki_files.specs.Checklist.{Checklist, NumbersForm, NamedForm, ChecklistForm}
use Rattle.rpki_files.specs.Checklist.{number_fields_at, numbers_at, listed_at, fields_at}
use Rattle.rpki_files.specs.Checklist.{checklist_at}
use Rattle.rpki_files.proofs.Manifests.Exact.{as-reading, within-spelt}

-- ---- a file

portable-part : IsPart (is IA5_STRING) nothing portable_at PortableForm
portable-part = pass is_portable_name ia5-part (λ name. (λ e. e, λ e. e))

pub checked-part : IsPart (is SEQUENCE) nothing checked_at CheckedForm
unfolding checked_fields_at
checked-part = within SEQUENCE (
    field (λ (f : Checked). f.file_name) (option IA5_STRING portable-part) (λ name.
    field (λ (f : Checked). f.hash) (octets-part MAX_DEPTH) (λ hash.
    done (record { file_name = name; hash = hash }) ((tt, refl), refl)
    (λ f k i. record { file_name = k.0.1 i; hash = k.1 i })) refl) refl)

-- ---- what is named

numbers-part : IsPart (is SEQUENCE) nothing numbers_at NumbersForm
unfolding number_fields_at
numbers-part = within SEQUENCE (
    field (λ (s : Set). s) (in-tag (context 0) as-part) (λ set.
    done set (tt, refl) (λ s k i. k.1 i)) refl)

pub sets-part : IsPart (is SEQUENCE) nothing (sets_at numbers_at)
    (λ mode. Made sets_of (NamedForm mode))
sets-part = resource-block-part numbers_at NumbersForm numbers-part

-- ---- a content

abbrev content : Sets → List Checked → Checklist
content sets files = record {
  as_resources = sets.0;
  v4_resources = sets.1.0;
  v6_resources = sets.1.1;
  files = files;
}

-- the same fields, each after the one before it
abbrev flat_at : Parser Checklist
flat_at mode bytes = do
  version ← optional (context 0) version_at mode bytes
  sets ← sets_at numbers_at mode version.1
  algorithm ← digest_algorithm_at mode sets.1
  files ← list_at checked_at mode algorithm.1
  Some (content sets.0 files.0, files.1)

abbrev put : Sets → Option (List Checked × List ℕ) → Option (Checklist × List ℕ)
put sets o = o >>= λ files. Some (content sets files.0, files.1)

files-spelt : (sets : Sets) (o : Option (List Checked × List ℕ))
    → put sets (◌>>=◌ {B = List Checked × List ℕ} o (λ files. Some (files.0, files.1))) ≡ put sets o
files-spelt sets None = refl
files-spelt sets (Some files) = refl

listed-spelt : (sets : Sets) (mode : Mode) (o : Option (Unit {0} × List ℕ))
    → put sets (o >>= λ a. (list_at checked_at mode a.1 >>= λ files. Some (files.0, files.1)))
    ≡ (o >>= λ a. put sets (list_at checked_at mode a.1))
listed-spelt sets mode None = refl
listed-spelt sets mode (Some a) = files-spelt sets (list_at checked_at mode a.1)

sets-spelt : (mode : Mode) (o : Option (Sets × List ℕ))
    → (o >>= λ sets. put sets.0 (digest_algorithm_at mode sets.1
    >>= λ a. (list_at checked_at mode a.1 >>= λ files. Some (files.0, files.1))))
    ≡ (o >>= λ sets. (digest_algorithm_at mode sets.1
    >>= λ a. put sets.0 (list_at checked_at mode a.1)))
sets-spelt mode None = refl
sets-spelt mode (Some sets) = listed-spelt sets.0 mode (digest_algorithm_at mode sets.1)

fields-spelt : (mode : Mode) (b : List ℕ) → fields_at mode b ≡ flat_at mode b
unfolding fields_at listed_at
fields-spelt mode b = of (optional (context 0) version_at mode b)
  where
    of : (o : Option (Option (Unit {0}) × List ℕ))
        → (o >>= λ version. (sets_at numbers_at mode version.1 >>= λ sets. put sets.0
        (digest_algorithm_at mode sets.1
        >>= λ a. (list_at checked_at mode a.1 >>= λ files. Some (files.0, files.1)))))
        ≡ (o >>= λ version. (sets_at numbers_at mode version.1 >>= λ sets.
        (digest_algorithm_at mode sets.1 >>= λ a. put sets.0 (list_at checked_at mode a.1))))
    of None = refl
    of (Some version) = sets-spelt mode (sets_at numbers_at mode version.1)

flat-part : IsPart (is SEQUENCE) nothing (sequence_at flat_at) ChecklistForm
flat-part = within SEQUENCE (
    skipped (option (context 0) version-part) (
    field (λ (l : Checklist). (l.as_resources, (l.v4_resources, l.v6_resources))) sets-part
    (λ sets.
    fixed digest-part (
    field (λ (l : Checklist). l.files) (list-part checked-part) (λ files.
    done (content sets files) ((tt, refl), refl)
    (λ l k i. record {
      as_resources = (k.0.1 i).0;
      v4_resources = (k.0.1 i).1.0;
      v6_resources = (k.0.1 i).1.1;
      files = k.1 i;
    })) refl) refl) refl) refl)

pub checklist-part : IsPart (is SEQUENCE) nothing checklist_at ChecklistForm
checklist-part = part-spelt (within-spelt SEQUENCE fields_at flat_at fields-spelt) flat-part

-- ---- as readings

pub checked-reading : IsReading checked_at CheckedForm
checked-reading = as-reading checked-part (λ mode o f h. (SEQUENCE, h.0, h.1))

pub checklist-reading : IsReading checklist_at ChecklistForm
checklist-reading = as-reading checklist-part (λ mode o l h. (SEQUENCE, h.0, h.1))
