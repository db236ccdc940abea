-- The lines of a revocation list (RFC 5280, section 5; RFC 6487, section 5).
use Rattle.std.specs.Prelude.{ℕ, List, ◌++◌, codes}
use Rattle.std.specs.List.{flat_map}
use Rattle.rpki_basics.specs.Time.Form.{iso_text}
use Rattle.rpki_show.specs.Dated.{DatedList}
use Rattle.rpki_show.specs.Texts.Named.{serial_line, moment_line, key_line}
use Rattle.rpki_show.specs.Texts.Serial.{serial_hex}
use Rattle.rpki_show.specs.declared.dated.DatedEntry.{DatedEntry}

-- the line of a certificate that is revoked: its serial number, and since when
unfoldable pub revoked_line : DatedEntry → List ℕ
revoked_line e =
    codes "revoked " ++ (serial_hex e.serial ++ (codes " " ++ (iso_text e.date ++ codes "\n")))

-- when it was made, and until when the next one is made
unfoldable pub updates_text : DatedList → List ℕ
updates_text l = moment_line (codes "this-update") l.this_update
    ++ moment_line (codes "next-update") l.next_update

-- the number, both moments, and the identifier of the issuer's key
abbrev pub head_text : DatedList → List ℕ
head_text l = serial_line (codes "number") l.extensions.number
    ++ (updates_text l ++ key_line (codes "authority-key-id") l.extensions.authority_key)

-- the name of the kind, the lines of what the list says of itself, and a line for each entry
abbrev pub crl_text : DatedList → List ℕ
crl_text l = codes "crl\n" ++ (head_text l ++ flat_map revoked_line l.revoked)
