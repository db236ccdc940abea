-- The tests of URIs, as functions of their texts.
use Rattle.std.specs.Prelude.{ℕ, ◌+◌, Bool, false, ◌&&◌, ◌==◌, nat_lt, List, [], ◌∷◌, length, map}
use Rattle.std.specs.Prelude.{get_or, take, drop, Option, Some, None, if◌then◌else◌, codes}
use Rattle.std.specs.Prelude.{bytes_eq}
use Rattle.std.specs.List.{list_all}
use Rattle.std.specs.Char.{to_ascii_lowercase}
use Rattle.rpki_basics.specs.Segments.{segments}
use Rattle.rpki_basics.specs.Uri.{is_uri_octet}
use Rattle.rpki_basics.specs.Uri.Tests.{are_rsync_segments, are_https_segments}

-- whether a text is two slashes, and segments that pass the test: the test of `GoesOn`
abbrev pub does_go_on : (List (List ℕ) → Bool) → List ℕ → Bool
does_go_on test [] = false
does_go_on test (a ∷ []) = false
does_go_on test (a ∷ b ∷ rest) = (a == 0x2F) && ((b == 0x2F) && test (segments rest))

-- whether a text begins with this scheme, in upper or lower case, and a colon: the test of
-- `HasScheme`
abbrev pub has_scheme : List ℕ → List ℕ → Bool
has_scheme scheme text =
    nat_lt (length scheme) (length text)
    && ((get_or text (length scheme) 0x3A == 0x3A)
    && bytes_eq (map to_ascii_lowercase (take (length scheme) text)) scheme)

-- whether a text is a URI with this scheme: the test of `IsUri`
abbrev pub is_uri : List ℕ → (List (List ℕ) → Bool) → List ℕ → Bool
is_uri scheme test text =
    list_all is_uri_octet text
    && (has_scheme scheme text && does_go_on test (drop (length scheme + 1) text))

-- the rsync URI of this text, if it is one
abbrev pub rsync_of : List ℕ → Option (List ℕ)
rsync_of text = if is_uri (codes "rsync") are_rsync_segments text then Some text else None

-- the https URI of this text, if it is one
abbrev pub https_of : List ℕ → Option (List ℕ)
https_of text = if is_uri (codes "https") are_https_segments text then Some text else None
