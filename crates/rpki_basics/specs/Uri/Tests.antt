-- The tests of URIs.
use Rattle.std.specs.Prelude.{ℕ, Bool, true, false, ◌&&◌, not, nat_lt, ◌==◌}
use Rattle.std.specs.Prelude.{List, [], ◌∷◌, length}

-- Whether it is . or .. (RFC 3986, section 3.3).
abbrev pub is_dot_segment : List ℕ → Bool
is_dot_segment [] = false
is_dot_segment (a ∷ []) = a == 0x2E
is_dot_segment (a ∷ b ∷ []) = (a == 0x2E) && (b == 0x2E)
is_dot_segment (a ∷ b ∷ c ∷ rest) = false

-- Whether these are the segments of a path: the test of `IsPath`.
abbrev pub is_path : List (List ℕ) → Bool
is_path [] = true
is_path (segment ∷ []) = not (is_dot_segment segment)
is_path (segment ∷ next ∷ others) =
    not (is_dot_segment segment) && nat_lt 0 (length segment) && is_path (next ∷ others)

-- Whether these are an authority, a module and a path: the test of `AreRsyncSegments`.
abbrev pub are_rsync_segments : List (List ℕ) → Bool
are_rsync_segments [] = false
are_rsync_segments (authority ∷ []) = false
are_rsync_segments (authority ∷ folder ∷ path) =
    nat_lt 0 (length authority) && nat_lt 0 (length folder) && not (is_dot_segment folder)
    && is_path path

-- Whether the first one, the authority, is not empty: the test of `AreHttpsSegments`.
abbrev pub are_https_segments : List (List ℕ) → Bool
are_https_segments [] = false
are_https_segments (authority ∷ others) = nat_lt 0 (length authority)
