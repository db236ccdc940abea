-- URIs of objects: rsync and https. The sections are those of RFC 3986, where no other RFC is
-- named.
pub mod Tests
use Rattle.std.specs.Prelude.{◌≡◌, ◌≢◌, ℕ, ◌<◌, Bool, true, ◌&&◌, ◌||◌, not, nat_le}
use Rattle.std.specs.Prelude.{nat_eq, ◌==◌, if◌then◌else◌, List, [], ◌∷◌, ◌++◌, length, map, codes}
use Rattle.std.specs.Prelude.{Result, Ok, Err}
use Rattle.std.specs.List.{list_all, ends_with}
use Rattle.std.specs.Char.{to_ascii_lowercase}
use Rattle.rpki_basics.specs.Segments.{segments}
use Rattle.rpki_basics.specs.declared.uri.Error.{Error}
use Rattle.rpki_basics.specs.declared.uri.Error.TheVariants.{InvalidCharacters, BadScheme, BadUri}
use Rattle.rpki_basics.specs.declared.uri.Error.TheVariants.{Memory}

-- An octet that a URI may have: a visible character of ASCII, but for " < > \ ^ ` { | } (section
-- 2), and for #, which begins a fragment. The schemes have none (RFC 5781, section 2; RFC 9110,
-- section 4.2.2), but section 3 lets one follow in any scheme: that none may is this project's own
-- rule. That % may stand without two hexadecimal digits (section 2.1), and [ and ] outside an
-- address (section 3.2.2), is this project's own rule.
abbrev pub is_uri_octet : ℕ → Bool
is_uri_octet octet =
    nat_le 0x21 octet && nat_le octet 0x7E
    && not ((octet == 0x22) || (octet == 0x23) || (octet == 0x3C) || (octet == 0x3E)
    || (octet == 0x5C) || (octet == 0x5E) || (octet == 0x60) || (octet == 0x7B) || (octet == 0x7C)
    || (octet == 0x7D))

-- Each octet is one that a URI may have.
abbrev pub AreUriOctets : List ℕ → Type 0
AreUriOctets text = list_all is_uri_octet text ≡ true

-- The text is this scheme in letters of either case, a colon, and this rest (section 3.1).
abbrev pub Follows : List ℕ → List ℕ → List ℕ → Type 0
Follows scheme text rest =
    (name : List ℕ) × (text ≡ name ++ (codes ":" ++ rest)) × (map to_ascii_lowercase name ≡ scheme)

-- The text begins with this scheme and a colon (section 3.1).
abbrev pub HasScheme : List ℕ → List ℕ → Type 0
HasScheme scheme text = (rest : List ℕ) × Follows scheme text rest

-- A segment that is neither . nor .. (section 3.3).
abbrev pub IsNoDotSegment : List ℕ → Type 0
IsNoDotSegment segment = (segment ≢ codes ".") × (segment ≢ codes "..")

-- The segments of a path (section 3.3). None is . or .., and none but the last is empty: both are
-- this project's own rules.
abbrev pub IsPath : List (List ℕ) → Type 0
IsPath [] = Unit {0}
IsPath (segment ∷ []) = IsNoDotSegment segment
IsPath (segment ∷ next ∷ others) =
    IsNoDotSegment segment × (0 < length segment) × IsPath (next ∷ others)

-- An authority, a module and a path (RFC 5781, section 2). That there are an authority and a
-- module, that neither is empty, and that the module is not . or .., is this project's own rule.
-- That the authority ends at the first slash alone and may have any octets of a URI, and that ? may
-- stand in the module and in the path, where RFC 5781 has no query, is this project's own rule.
abbrev pub AreRsyncSegments : List (List ℕ) → Type 0
AreRsyncSegments [] = ⊥
AreRsyncSegments (authority ∷ []) = ⊥
AreRsyncSegments (authority ∷ folder ∷ path) =
    (0 < length authority) × (0 < length folder) × IsNoDotSegment folder × IsPath path

-- An authority, which is not empty, and anything (RFC 9110, section 4.2.2). That the authority ends
-- at the first slash alone, where section 3.2 ends it at ? and # too, and may have any octets of a
-- URI, is this project's own rule.
abbrev pub AreHttpsSegments : List (List ℕ) → Type 0
AreHttpsSegments [] = ⊥
AreHttpsSegments (authority ∷ others) = 0 < length authority

-- Two slashes, and segments of which this holds (section 3). That the slashes are asked for, where
-- section 3 has URIs without them, is this project's own rule for rsync (RFC 5781, section 2).
abbrev pub GoesOn : (List (List ℕ) → Type 0) → List ℕ → Type 0
GoesOn P text = (rest : List ℕ) × (text ≡ codes "//" ++ rest) × P (segments rest)

-- A URI with this scheme, two slashes, and segments of which this holds (section 3). Each octet of
-- the text is one that a URI may have (`AreUriOctets`).
abbrev pub IsUri : List ℕ → (List (List ℕ) → Type 0) → List ℕ → Type 0
IsUri scheme P text =
    AreUriOctets text × ((rest : List ℕ) × Follows scheme text rest × GoesOn P rest)

-- An rsync URI (RFC 5781, section 2).
abbrev pub IsRsync : List ℕ → Type 0
IsRsync text = IsUri (codes "rsync") AreRsyncSegments text

-- An https URI (RFC 9110, section 4.2.2).
abbrev pub IsHttps : List ℕ → Type 0
IsHttps text = IsUri (codes "https") AreHttpsSegments text

-- The URI of this text, or the first cause why there is none.
abbrev pub IsUriOf : List ℕ → (List (List ℕ) → Type 0) → List ℕ → Result (List ℕ) Error → Type 0
IsUriOf scheme P text (Ok uri) = (uri ≡ text) × IsUri scheme P text
IsUriOf scheme P text (Err InvalidCharacters) = ¬ AreUriOctets text
IsUriOf scheme P text (Err BadScheme) = AreUriOctets text × ¬ HasScheme scheme text
IsUriOf scheme P text (Err BadUri) =
    AreUriOctets text × HasScheme scheme text × ¬ IsUri scheme P text
IsUriOf scheme P text (Err Memory) = ⊥

-- A text and a name after it, with a slash between them where the text does not end in one.
abbrev pub join_text : List ℕ → List ℕ → List ℕ
join_text text name =
    if ends_with nat_eq text (codes "/") then text ++ name else text ++ (codes "/" ++ name)

-- The rsync URI of the joined text, or the first cause why there is none, unless memory runs out.
abbrev pub IsJoined : List ℕ → List ℕ → Result (List ℕ) Error → Type 0
IsJoined uri name (Ok joined) = (joined ≡ join_text uri name) × IsRsync (join_text uri name)
IsJoined uri name (Err InvalidCharacters) = ¬ AreUriOctets (join_text uri name)
IsJoined uri name (Err BadScheme) = ⊥
IsJoined uri name (Err BadUri) =
    AreUriOctets (join_text uri name) × ¬ IsRsync (join_text uri name)
IsJoined uri name (Err Memory) = Unit {0}

-- The text of an error.
abbrev pub error_text : Error → List ℕ
error_text InvalidCharacters = codes "invalid characters"
error_text BadScheme = codes "bad URI scheme"
error_text BadUri = codes "bad URI"
error_text Memory = codes "out of memory"
