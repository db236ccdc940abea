-- Verdicts of a list on keys, by their bits.
use Rattle.std.specs.Prelude.{ℕ, ◌<◌, ◌^◌, List, length, Bool, ◌&&◌, nat_lt, bytes_eq}
use Rattle.std.specs.List.{list_any}
use Rattle.rpki_basics.specs.Key.{key_contents, key_octets}
use Rattle.rpki_verdicts.specs.Verdicts.{digest_text, line_of, IsYes}

-- The list says yes to the signature of the message by the key with these bits: the key can be
-- written as a SubjectPublicKeyInfo (RFC 5280, section 4.1.2.7), and the digests of its octets, of
-- the message and of the signature are a line of the list.
pub record IsListed (lines : List (List ℕ)) (key message signature : List ℕ) : Type 0 where
  pub short : length (key_contents key) < 2 ^ 32
  pub is_yes : IsYes lines (key_octets key) message signature

-- whether a line is one of the lines
abbrev pub has_line : List (List ℕ) → List ℕ → Bool
has_line lines line = list_any (bytes_eq line) lines

-- whether the list says yes to the signature of the message by the key with these bits: `IsListed`
-- as a test
abbrev pub is_listed : List (List ℕ) → List ℕ → List ℕ → List ℕ → Bool
is_listed lines key message signature =
    nat_lt (length (key_contents key)) (2 ^ 32)
    && has_line lines
    (line_of (digest_text (key_octets key)) (digest_text message) (digest_text signature))
