-- Texts, cut at their slashes.
use Rattle.std.specs.Prelude.{ℕ, List, [], ◌∷◌, ◌++◌, ◌==◌, if◌then◌else◌}

-- One octet more in front of the first segment.
abbrev pub longer : ℕ → List (List ℕ) → List (List ℕ)
longer octet [] = (octet ∷ []) ∷ []
longer octet (segment ∷ segments) = (octet ∷ segment) ∷ segments

-- The segments of a text, between which slashes stand: one more than there are slashes (RFC 3986,
-- section 3.3).
unfoldable pub segments : List ℕ → List (List ℕ)
segments [] = [] ∷ []
segments (octet ∷ text) = if octet == 0x2F then [] ∷ segments text else longer octet (segments text)

-- Octets in front of the first segment.
abbrev pub onto : List ℕ → List (List ℕ) → List (List ℕ)
onto front [] = front ∷ []
onto front (segment ∷ others) = (front ++ segment) ∷ others
