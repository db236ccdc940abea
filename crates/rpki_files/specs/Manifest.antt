-- The content of a manifest. The sections are those of RFC 9286.
pub mod Built
pub mod Checks
pub mod Files
pub mod Signed
pub mod Taken
pub mod Uris
use Rattle.std.specs.Prelude.{ℕ, ◌≤◌, List, [], ◌∷◌, ◌++◌, Option, Some, None}
use Rattle.std.specs.Prelude.{nat_le, if◌then◌else◌}
use Rattle.std.specs.List.{flat_map}
use Rattle.rpki_basics.specs.declared.limits.ManifestRule.{ManifestRule}
use Rattle.rpki_basics.specs.Moment.{Moment, stamp}
use Rattle.rpki_basics.specs.Time.Form.{TimeForm, generalized_octets}
use Rattle.rpki_basics.specs.Time.Read.{time_at}
use Rattle.rpki_basics.specs.Serial.{SerialForm, serial_octets}
use Rattle.rpki_basics.specs.Algorithm.{sha_256, named}
use Rattle.rpki_der.specs.Tags.{SEQUENCE, OBJECT_IDENTIFIER, context}
use Rattle.rpki_der.specs.declared.mode.Mode.{Mode}
use Rattle.rpki_der.specs.declared.mode.Mode.TheVariants.{Der}
use Rattle.rpki_der.specs.Grammar.{ObjectIdentifier}
use Rattle.rpki_der.specs.Read.Parse.{Parser, ◌>>=◌, u160_at, oid_at, optional}
use Rattle.rpki_der.specs.Form.Parts.{Sequence, SequenceOf, sequence_at}
use Rattle.rpki_der.specs.Form.Made.{partly}
use Rattle.rpki_der.specs.Write.Written.{value_octets}
use Rattle.rpki_lists.specs.Version.{OptionalVersion, version_at}
use Rattle.rpki_files.specs.Manifest.Files.{File, FileForm, MeetsRule, files_at, file_octets}

-- what a content says
pub record Manifest : Type 0 where
  pub number : ℕ
  pub this_update : Moment
  pub next_update : Moment
  pub files : List File

-- What is asked beyond the grammar: the next update is not before this one, and the files are those
-- that the caller's rule takes. In the standard the next update is later than this one (section
-- 4.2.1); that both may be equal is this project's own rule.
pub record IsManifest (rule : ManifestRule) (m : Manifest) : Type 0 where
  pub order : stamp m.this_update ≤ stamp m.next_update
  pub files : MeetsRule rule m.files

-- Manifest ::= SEQUENCE { version [0] INTEGER DEFAULT 0, manifestNumber INTEGER (0..MAX),
-- thisUpdate, nextUpdate, fileHashAlg OBJECT IDENTIFIER, fileList SEQUENCE OF FileAndHash }
-- (section 4.2), of which `IsManifest` holds under the rule. The algorithm is SHA-256 (RFC 7935,
-- section 2). That the number is below 2^160, and that UTCTime is taken beside GeneralizedTime,
-- is this project's own rule. That the files stand in DER in a reader of BER too is this project's
-- own rule.
abbrev pub ManifestForm : ManifestRule → Mode → List ℕ → Manifest → Type 0
ManifestForm rule mode octets m = Sequence mode (
    OptionalVersion mode
    ∷ (λ o. SerialForm mode o m.number)
    ∷ (λ o. TimeForm mode o m.this_update)
    ∷ (λ o. TimeForm mode o m.next_update)
    ∷ (λ o. ObjectIdentifier mode o sha_256)
    ∷ (λ o. SequenceOf mode (FileForm Der) o m.files)
    ∷ []) octets × IsManifest rule m

-- ---- as functions

-- the number and both updates
abbrev pub Head : Type 0
Head = ℕ × Moment × Moment

-- these, where the next update is not before this one
abbrev pub ordered : ℕ → Moment → Moment → List ℕ → Option (Head × List ℕ)
ordered number this next rest =
    if nat_le (stamp this) (stamp next) then Some ((number, this, next), rest) else None

-- the version, the number and both updates
unfoldable pub head_at : Parser Head
head_at mode bytes = do
  version ← optional (context 0) version_at mode bytes
  number ← u160_at mode version.1
  this ← time_at mode number.1
  next ← time_at mode this.1
  ordered number.0 this.0 next.0 next.1

-- the algorithm and the files
abbrev pub rest_at : ManifestRule → Head → Parser Manifest
rest_at rule head mode bytes = do
  algorithm ← partly (named sha_256) oid_at mode bytes
  files ← files_at rule mode algorithm.1
  Some (
    record {
      number = head.0;
      this_update = head.1;
      next_update = head.2;
      files = files.0;
    },
    files.1,
  )

-- the fields, one after another
unfoldable pub fields_at : ManifestRule → Parser Manifest
fields_at rule mode bytes = do
  head ← head_at mode bytes
  rest_at rule head.0 mode head.1

-- a content
abbrev pub manifest_at : ManifestRule → Parser Manifest
manifest_at rule = sequence_at (fields_at rule)

-- ---- as octets

-- the files, one after the other
abbrev pub files_octets : List File → List ℕ
files_octets files = flat_map file_octets files

-- The octets in the SEQUENCE of a content, without its header.
abbrev pub manifest_contents : Manifest → List ℕ
manifest_contents m =
    serial_octets m.number ++ (generalized_octets m.this_update
    ++ (generalized_octets m.next_update ++ (value_octets OBJECT_IDENTIFIER sha_256
    ++ value_octets SEQUENCE (files_octets m.files))))

-- a content, without its version, and with both times as GeneralizedTime
abbrev pub manifest_octets : Manifest → List ℕ
manifest_octets m = value_octets SEQUENCE (manifest_contents m)
