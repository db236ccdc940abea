-- Names of files below a folder. The section is that of RFC 3986.
use Rattle.std.specs.Prelude.{◌≡◌, ℕ, ◌-◌, List, [], ◌++◌, Bool, ◌==◌, codes, length, take, All}
use Rattle.std.specs.Prelude.{if◌then◌else◌}
use Rattle.std.specs.List.{slice_split, after_first, ends_with}
use Rattle.rpki_relying_party.specs.Texts.{name_of}

-- whether an octet is a slash
abbrev pub is_slash : ℕ → Bool
is_slash o = o == 0x2f

-- A segment of a path is a name of its own: it is not empty, and neither `.` nor `..`, which lead
-- to the same folder and to the one above (3.3).
abbrev pub IsPlain : List ℕ → Type 0
IsPlain segment = (¬ (segment ≡ [])) × (¬ (segment ≡ codes ".")) × (¬ (segment ≡ codes ".."))

-- A name leads to a file below a folder: each of its segments is plain; a slash stands between each
-- two (3.3).
abbrev pub IsBelow : List ℕ → Type 0
IsBelow name = All IsPlain (slice_split is_slash name)

-- what stands after the first slash, or nothing where there is none
abbrev pub after_slash : List ℕ → List ℕ
after_slash octets = after_first is_slash octets

-- what stands after the two slashes of a URI, its authority, its path and its query (3): of
-- `rsync://HOST/MODULE/PATH` it is `HOST/MODULE/PATH`
abbrev pub path_of : List ℕ → List ℕ
path_of uri = after_slash (after_slash uri)

-- a text without these octets at its end, if it has them there
abbrev pub without_end : List ℕ → List ℕ → List ℕ
without_end end text =
    if ends_with (λ a b. a == b) text end then take (length text - length end) text else text

-- the name of a locator: what stands after the last slash of the path of its file, without `.tal` at
-- its end
abbrev pub locator_name : List ℕ → List ℕ
locator_name path = without_end (codes ".tal") (name_of path)

-- `ta/NAME/LAST`: the name under which rpki-client has the certificate of the trust anchor of the
-- locator with this name, for a URI of the locator, of which LAST stands after the last slash
abbrev pub anchor_name : List ℕ → List ℕ → List ℕ
anchor_name name uri = codes "ta/" ++ (name ++ (codes "/" ++ name_of uri))
