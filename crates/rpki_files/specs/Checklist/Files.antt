-- The files of a checklist. The sections are those of RFC 9323.
use Rattle.std.specs.Prelude.{◌≡◌, ◌++◌, ◌||◌, ◌==◌, ℕ, List, [], ◌∷◌, Bool, true}
use Rattle.std.specs.Prelude.{Option, Some, IfSome}
use Rattle.std.specs.List.{list_all}
use Rattle.rpki_der.specs.Numbers.{MAX_DEPTH}
use Rattle.rpki_der.specs.Tags.{SEQUENCE, IA5_STRING, OCTET_STRING}
use Rattle.rpki_der.specs.declared.mode.Mode.{Mode}
use Rattle.rpki_der.specs.Grammar.{Ia5String, OctetString, Optional}
use Rattle.rpki_der.specs.Read.Parse.{Parser, ◌>>=◌, ia5_at, octets_at, optional, tested}
use Rattle.rpki_der.specs.Form.Parts.{Sequence, sequence_at}
use Rattle.rpki_der.specs.Write.Parts.{optional_octets}
use Rattle.rpki_der.specs.Write.Written.{value_octets}
use Rattle.rpki_files.specs.declared.checklist.checked.FileNameAndHash.{FileNameAndHash}
use Rattle.rpki_files.specs.Name.{is_stem}

-- a name, if there is one, and the octets of a hash
abbrev pub Checked : Type 0
Checked = FileNameAndHash (List ℕ) (List ℕ)

-- a letter, a digit, `-`, `_` or a dot
abbrev pub is_portable : ℕ → Bool
is_portable b = is_stem b || (b == 0x2E)

-- whether each character is a letter, a digit, `-`, `_` or a dot
abbrev pub is_portable_name : List ℕ → Bool
is_portable_name name = list_all is_portable name

-- each character of the name, if there is one, is a letter, a digit, `-`, `_` or a dot (section 4)
abbrev pub IsNamed : Checked → Type 0
IsNamed f = IfSome f.file_name (λ name. is_portable_name name ≡ true)

-- PortableFilename ::= IA5String (FROM ("a".."z" | "A".."Z" | "0".."9" | "." | "_" | "-")) (section
-- 4). That there may be no character is this project's own reading.
abbrev pub PortableForm : Mode → List ℕ → List ℕ → Type 0
PortableForm mode octets name = Ia5String mode octets name × (is_portable_name name ≡ true)

-- FileNameAndHash ::= SEQUENCE { fileName PortableFilename OPTIONAL, hash OCTET STRING } (section
-- 4.4.1). That the hash has any length is this project's own rule.
abbrev pub CheckedForm : Mode → List ℕ → Checked → Type 0
CheckedForm mode octets f = Sequence mode (
    (λ o. Optional (PortableForm mode) o f.file_name)
    ∷ (λ o. OctetString mode MAX_DEPTH o f.hash)
    ∷ []) octets

-- ---- as functions

-- a name
abbrev pub portable_at : Parser (List ℕ)
portable_at = tested is_portable_name ia5_at

-- a name that may be there
abbrev pub portable_if_at : Parser (Option (List ℕ))
portable_if_at = optional IA5_STRING portable_at

-- the name, if there is one, and the hash, one after the other
unfoldable pub checked_fields_at : Parser Checked
checked_fields_at mode bytes = do
  name ← portable_if_at mode bytes
  hash ← octets_at MAX_DEPTH mode name.1
  Some (record { file_name = name.0; hash = hash.0 }, hash.1)

-- a file
abbrev pub checked_at : Parser Checked
checked_at = sequence_at checked_fields_at

-- ---- as octets

-- The octets in the SEQUENCE of a file, without its header.
abbrev pub checked_contents : Checked → List ℕ
checked_contents f =
    optional_octets (value_octets IA5_STRING) f.file_name ++ value_octets OCTET_STRING f.hash

-- a file
abbrev pub checked_octets : Checked → List ℕ
checked_octets f = value_octets SEQUENCE (checked_contents f)
