-- The lines of a trust anchor locator (RFC 8630).
use Rattle.std.specs.Prelude.{◌≡◌, ℕ, List, ◌++◌, codes}
use Rattle.std.specs.List.{flat_map}
use Rattle.sha1.specs.Sha1.{sha1}
use Rattle.rpki_der.specs.Text.Hex.{upper_hex}
use Rattle.rpki_tal.specs.declared.uri.TalUri.{TalUri}
use Rattle.rpki_tal.specs.Uri.{uri_text}
use Rattle.rpki_tal.specs.Form.{TalForm}

-- the line of a URI
abbrev pub uri_line : TalUri → List ℕ
uri_line uri = codes "uri " ++ (uri_text uri ++ codes "\n")

-- the line of a key: its identifier, the SHA-1 digest of its bits (RFC 5280, section 4.2.1.2)
abbrev pub key_line : List ℕ → List ℕ
key_line key = codes "key " ++ (upper_hex (sha1 key) ++ codes "\n")

-- the name of the kind, a line for each URI, and the key
abbrev pub tal_text : List TalUri → List ℕ → List ℕ
tal_text uris key = codes "tal\n" ++ (flat_map uri_line uris ++ key_line key)

-- The octets are the text of a locator (RFC 8630, section 2.2), whole, and these are its lines.
abbrev pub TalLines : List ℕ → List ℕ → Type 0
TalLines octets lines =
    (uris : List TalUri) × (key : List ℕ) × TalForm octets uris key × (lines ≡ tal_text uris key)
