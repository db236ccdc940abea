-- The URIs of the files of a manifest. The section is that of RFC 9286.
use Rattle.std.specs.Prelude.{◌≡◌, ◌∷◌, ℕ, List, [], map, Option, Result, MatchOption, IfOk}
use Rattle.rpki_basics.specs.Uri.{join_text}
use Rattle.rpki_files.specs.Manifest.Files.{File, name_of}

-- the URI of a file and its hash
abbrev pub UriAndHash : Type 0
UriAndHash = List ℕ × List ℕ

-- The URI of a file in the publication point at this base (section 4.2.1), and its hash. Its name
-- stands after the base, and a slash between them where the base does not end in one.
abbrev pub uri_of : List ℕ → File → UriAndHash
uri_of base f = (join_text base (name_of f), f.hash)

-- the URI and the hash of each file, in order
abbrev pub uris_of : List ℕ → List File → List UriAndHash
uris_of base files = map (uri_of base) files

-- A call answers the first value that is left, or that no memory was to be had for it, and leaves
-- the others in either case; it answers none where none is left.
abbrev pub YieldsFirstOrMemory : {S X E : Type 0} → (S → List X) → S → Option (Result X E) → S
    → Type 0
YieldsFirstOrMemory {S} {X} rest s r t =
    MatchOption r ((rest s ≡ []) × (rest t ≡ []))
    (λ item. (x : X) × (rest s ≡ x ∷ rest t) × IfOk item (λ y. y ≡ x))
