-- Names in IA5 characters, as they are printed.
use Rattle.std.specs.Prelude.{ℕ, List, encode_utf8}
use Rattle.std.specs.List.{flat_map}

-- The characters of these codes, in UTF-8 (RFC 3629, section 3): one octet for each code of IA5,
-- which are those below 128 (X.690, section 8.23; RFC 5280, section 7.2).
abbrev pub ia5_text : List ℕ → List ℕ
ia5_text octets = flat_map encode_utf8 octets
