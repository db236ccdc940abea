-- Lines of what a certificate or a revocation list says: a name and what it says.
use Rattle.std.specs.Prelude.{ℕ, List, [], ◌++◌, Option, Some, None, codes}
use Rattle.rpki_basics.specs.Moment.{Moment}
use Rattle.rpki_basics.specs.Time.Form.{iso_text}
use Rattle.rpki_der.specs.Text.Hex.{upper_hex}
use Rattle.rpki_show.specs.Texts.Serial.{serial_hex}

-- the line of a serial number
unfoldable pub serial_line : List ℕ → ℕ → List ℕ
serial_line name n = name ++ (codes " " ++ (serial_hex n ++ codes "\n"))

-- the line of a moment (RFC 3339, section 5.6)
unfoldable pub moment_line : List ℕ → Moment → List ℕ
moment_line name m = name ++ (codes " " ++ (iso_text m ++ codes "\n"))

-- the line of the identifier of a key, in upper hexadecimal
unfoldable pub key_line : List ℕ → List ℕ → List ℕ
key_line name id = name ++ (codes " " ++ (upper_hex id ++ codes "\n"))

-- the line of a URI, where there is one
unfoldable pub uri_line : List ℕ → Option (List ℕ) → List ℕ
uri_line name (Some uri) = name ++ (codes " " ++ (uri ++ codes "\n"))
uri_line name None = []
