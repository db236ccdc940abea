-- The files of a manifest. The sections are those of RFC 9286.
use Rattle.std.specs.Prelude.{◌≡◌, ◌<◌, ◌^◌, ◌++◌, ℕ, List, [], ◌∷◌, length, Some, Bool, true}
use Rattle.std.specs.List.{list_all}
use Rattle.std.specs.Prelude.{Option, None, Result, Ok, Err, if◌then◌else◌}
use Rattle.rpki_basics.specs.declared.limits.ManifestRule.{ManifestRule}
use Rattle.rpki_basics.specs.declared.limits.ManifestRule.TheVariants.{Any, Registered}
use Rattle.rpki_der.specs.Tags.{SEQUENCE, IA5_STRING, BIT_STRING}
use Rattle.rpki_der.specs.declared.mode.Mode.{Mode}
use Rattle.rpki_der.specs.declared.mode.Mode.TheVariants.{Der}
use Rattle.rpki_der.specs.Grammar.{Ia5String, BitString}
use Rattle.rpki_der.specs.Read.Parse.{Parser, ◌>>=◌, ia5_at, bits_at, tested}
use Rattle.rpki_der.specs.Form.Parts.{Sequence, sequence_at}
use Rattle.rpki_der.specs.Form.Made.{Made, made}
use Rattle.rpki_der.specs.Form.Keyed.{AreDistinct, are_distinct}
use Rattle.rpki_der.specs.Write.Parts.{contents_small, pair_small}
use Rattle.rpki_der.specs.Write.Written.{value_octets, bit_string_contents}
use Rattle.rpki_lists.specs.Entries.{list_at}
use Rattle.rpki_lists.specs.Rules.{admits}
use Rattle.rpki_files.specs.declared.manifest.file.FileAndHash.{FileAndHash}
use Rattle.rpki_files.specs.declared.manifest.files.NamesBy.{NamesBy}
use Rattle.rpki_files.specs.Name.{IsFileName, is_file_name, is_registered}

-- a name and the octets of a hash
abbrev pub File : Type 0
File = FileAndHash (List ℕ) (List ℕ)

-- the name of a file
abbrev pub name_of : File → List ℕ
name_of f = f.file

-- an IA5String that is a name by IsFileName (section 4.2.2), whose type need not be registered
abbrev pub FileNameForm : Mode → List ℕ → List ℕ → Type 0
FileNameForm mode octets name = Ia5String mode octets name × IsFileName name

-- The octets of a BIT STRING, whatever bits of the last one are not used. That it has any length is
-- this project's own rule.
abbrev pub HashForm : Mode → List ℕ → List ℕ → Type 0
HashForm mode = Made (λ bits. bits.0) (BitString mode)

-- FileAndHash ::= SEQUENCE { file IA5String, hash BIT STRING } (section 4.2)
abbrev pub FileForm : Mode → List ℕ → File → Type 0
FileForm mode octets f = Sequence mode (
    (λ o. FileNameForm mode o f.file)
    ∷ (λ o. HashForm mode o f.hash)
    ∷ []) octets

-- What the caller's rule asks of the files: registered types, and no name twice; or nothing.
abbrev pub MeetsRule : ManifestRule → List File → Type 0
MeetsRule Any files = Unit {0}
MeetsRule Registered files =
    (list_all (λ f. is_registered (name_of f)) files ≡ true) × AreDistinct name_of files

-- ---- as functions

-- the name of a file
abbrev pub file_name_at : Parser (List ℕ)
file_name_at = tested is_file_name ia5_at

-- the hash of a file
abbrev pub hash_at : Parser (List ℕ)
hash_at = made (λ bits. bits.0) bits_at

-- the name and the hash, one after the other
unfoldable pub file_fields_at : Parser File
file_fields_at mode bytes = do
  name ← file_name_at mode bytes
  hash ← hash_at mode name.1
  Some (record { file = name.0; hash = hash.0 }, hash.1)

-- a file
abbrev pub file_at : Parser File
file_at = sequence_at file_fields_at

-- whether the rule allows the name
abbrev pub is_allowed : ManifestRule → List ℕ → Bool
is_allowed Any name = true
is_allowed Registered name = is_registered name

-- the rule goes on, where it allows the name
abbrev pub names_by : NamesBy → File → Option NamesBy
names_by names f = if is_allowed names.rule (name_of f) then Some names else None

-- whether no name stands twice, where the rule asks for it
abbrev pub is_unrepeated : ManifestRule → List File → Bool
is_unrepeated Any files = true
is_unrepeated Registered files = are_distinct name_of files

-- the files that the rule takes
abbrev pub files_at : ManifestRule → Parser (List File)
files_at rule = tested (is_unrepeated rule)
    (tested (admits names_by (record { rule = rule })) (list_at file_at))

-- what a call that names its refusal answers: what p finds, and what p leaves
abbrev pub Takes : {T X E : Type 0} → (T → X) → Parser X → List ℕ → Result T E → List ℕ → Type 0
Takes view p old (Ok t) new = p Der old ≡ Some (view t, new)
Takes view p old (Err e) new = p Der old ≡ None

-- ---- as octets

-- what stands in the SEQUENCE of a file
abbrev pub file_contents : File → List ℕ
file_contents f =
    value_octets IA5_STRING f.file ++ value_octets BIT_STRING (bit_string_contents f.hash 0)

-- a file, its hash without unused bits
abbrev pub file_octets : File → List ℕ
file_octets f = value_octets SEQUENCE (file_contents f)

-- Each contents in a file has fewer than 2^32 octets.
abbrev pub is_short_file : File → Type 0
is_short_file f =
    ((length f.file < 2 ^ 32) × (length (bit_string_contents f.hash 0) < 2 ^ 32))
    × (length (file_contents f) < 2 ^ 32)

-- where a file has fewer than 2^32 octets, each contents in it has fewer too
pub file-small : (f : File) → length (file_octets f) < 2 ^ 32 → is_short_file f
file-small f h =
    let c = contents_small SEQUENCE (file_contents f) h in (
      pair_small (value_octets IA5_STRING f.file)
          (value_octets BIT_STRING (bit_string_contents f.hash 0))
          (contents_small IA5_STRING f.file)
          (contents_small BIT_STRING (bit_string_contents f.hash 0)) c,
      c,
    )
