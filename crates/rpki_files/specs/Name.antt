-- The names of files in a manifest. The sections are those of RFC 9286.
use Rattle.std.specs.Prelude.{◌≡◌, ℕ, ◌+◌, ◌-◌, ◌≤◌, List, [], ◌∷◌, ◌++◌, length, take, drop}
use Rattle.std.specs.Prelude.{Bool, true, false, ◌&&◌, ◌||◌, ◌==◌, nat_le, nat_lt, if◌then◌else◌}
use Rattle.std.specs.Prelude.{codes}
use Rattle.std.specs.List.{list_all, list_any}

-- from low to high
abbrev pub is_from : ℕ → ℕ → ℕ → Bool
is_from low high b = nat_le low b && nat_le b high

-- a letter: `a` to `z`, or `A` to `Z`
abbrev pub is_letter : ℕ → Bool
is_letter b = is_from 0x61 0x7A b || is_from 0x41 0x5A b

-- a letter, a digit, - or _
abbrev pub is_stem : ℕ → Bool
is_stem b = is_letter b || (is_from 0x30 0x39 b || ((b == 0x2D) || (b == 0x5F)))

-- One or more of a to z, A to Z, 0 to 9, - and _, then a dot, then three letters (section 4.2.2).
-- That the three letters need not be a registered type is this project's own rule, which a caller
-- may choose otherwise.
pub record IsFileName (name : List ℕ) : Type 0 where
  pub stem : List ℕ
  pub ending : List ℕ
  pub parts : name ≡ stem ++ (0x2E ∷ ending)
  pub some : 1 ≤ length stem
  pub characters : list_all is_stem stem ≡ true
  pub three : length ending ≡ 3
  pub letters : list_all is_letter ending ≡ true

-- an upper case letter in lower case, anything else as it is
abbrev pub lower : ℕ → ℕ
lower b = if is_from 0x41 0x5A b then b + 0x20 else b

-- three letters, in any case, that are these three in lower case
abbrev pub is_type : List ℕ → List ℕ → Bool
is_type (x ∷ y ∷ z ∷ []) (a ∷ b ∷ c ∷ []) =
    (lower x == a) && ((lower y == b) && (lower z == c))
is_type letters other = false

-- The types of files of the RPKI (section 4.2.2; the list of them is this project's own).
abbrev pub registered_types : List (List ℕ)
registered_types =
    codes "asa" ∷ codes "cer" ∷ codes "crl" ∷ codes "gbr" ∷ codes "mft" ∷ codes "roa"
    ∷ codes "sig" ∷ codes "tak" ∷ []

-- whether the name has a registered type, in any case
unfoldable pub is_registered : List ℕ → Bool
is_registered name = list_any (is_type (drop (length name - 3) name)) registered_types

-- ---- as a function

-- a dot and three letters
abbrev pub is_ending : List ℕ → Bool
is_ending (d ∷ x ∷ y ∷ z ∷ []) =
    (d == 0x2E) && (is_letter x && (is_letter y && is_letter z))
is_ending letters = false

-- whether octets are the name of a file
unfoldable pub is_file_name : List ℕ → Bool
is_file_name name =
    if nat_lt (length name) 5 then false else
    (list_all is_stem (take (length name - 4) name) && is_ending (drop (length name - 4) name))
