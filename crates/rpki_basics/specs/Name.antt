-- Names: those that are captured, and those of keys.
use Rattle.std.specs.Prelude.{◌≡◌, ℕ, List, [], ◌∷◌, ◌++◌}
use Rattle.rpki_der.specs.declared.mode.Mode.{Mode}
use Rattle.rpki_der.specs.Grammar.{Value, Within, Skipped, ListOf, ObjectIdentifier}
use Rattle.rpki_der.specs.Numbers.{MAX_DEPTH}
use Rattle.rpki_der.specs.Read.Parse.{Parser, skip_all_at, captured}
use Rattle.rpki_der.specs.Write.Written.{value_octets}
use Rattle.rpki_der.specs.Tags.{SEQUENCE, SET, OBJECT_IDENTIFIER, PRINTABLE_STRING}
use Rattle.rpki_der.specs.Form.Parts.{Sequence, Set, sequence_at}
use Rattle.rpki_der.specs.Text.Hex.{upper_hex}

-- A Name: a SEQUENCE of values that are skipped (RFC 5280, section 4.1.2.4). That it may have any
-- contents is this project's own rule, and so is that a value which is skipped, here as elsewhere,
-- may have the identifier of a string that it is not.
abbrev pub IsName : Mode → List ℕ → Type 0
IsName mode octets = Within mode SEQUENCE (ListOf (Skipped mode MAX_DEPTH)) octets

-- A Name whose octets are kept.
abbrev pub NameForm : Mode → List ℕ → List ℕ → Type 0
NameForm mode octets kept = (kept ≡ octets) × IsName mode octets

-- The octets of a name.
abbrev pub name_at : Parser (List ℕ)
name_at = captured (sequence_at skip_all_at)

-- id-at-commonName, 2.5.4.3 (RFC 5280, appendix A.1)
abbrev pub common_name : List ℕ
common_name = 0x55 ∷ 0x04 ∷ 0x03 ∷ []

-- The name of the key with this identifier: SEQUENCE { SET { SEQUENCE { commonName,
-- PrintableString } } } of the upper hexadecimal digits of the identifier. RFC 6487, section 4.5,
-- asks for a name that no other key has under the same issuer; that it is of these digits is this
-- project's own rule.
abbrev pub KeyNameForm : Mode → List ℕ → List ℕ → Type 0
KeyNameForm mode octets identifier = Sequence mode (
    Set mode (
    Sequence mode (
    (λ o. ObjectIdentifier mode o common_name)
    ∷ (λ o. Value mode o PRINTABLE_STRING (upper_hex identifier))
    ∷ [])
    ∷ [])
    ∷ []) octets

-- The octets of the name of the key with this identifier.
abbrev pub key_name_octets : List ℕ → List ℕ
key_name_octets identifier =
    value_octets SEQUENCE (value_octets SET (value_octets SEQUENCE
    (value_octets OBJECT_IDENTIFIER common_name
    ++ value_octets PRINTABLE_STRING (upper_hex identifier))))
