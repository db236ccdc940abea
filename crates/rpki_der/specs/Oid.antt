-- OBJECT IDENTIFIERs.
use Rattle.std.specs.Prelude.{ℕ, ◌<◌, ◌+◌, ◌*◌, ◌-◌, ◌%◌, ◌^◌, List, [], ◌∷◌, ◌++◌, length}
use Rattle.std.specs.Prelude.{slice_index, Bool, false, nat_lt, if◌then◌else◌, codes, decimal}
use Rattle.std.specs.List.{list_all, flat_map}
use Rattle.rpki_der.specs.Text.Hex.{hex}

-- X.690, 8.19.2: there are octets, and the last one ends a subidentifier. That a subidentifier may
-- begin with 80 hexadecimal, which 8.19.2 forbids, is this project's own rule.
abbrev pub IsOid : List ℕ → Type 0
IsOid contents = (0 < length contents) × (slice_index contents (length contents - 1) < 128)

-- whether the contents are those of an OBJECT IDENTIFIER: not empty, and the last octet below 128
abbrev pub is_oid : List ℕ → Bool
is_oid contents = if nat_lt 0 (length contents) then nat_lt
    (slice_index contents (length contents - 1)) 128 else false

-- X.690, 8.19.2: the bits 7 to 1 of the octets of a subidentifier are a number in base 128, and bit
-- 8 of each but the last is set. Of the first one n has been read.
unfoldable pub subidentifiers : ℕ → List ℕ → List ℕ
subidentifiers n [] = []
subidentifiers n (octet ∷ rest) =
    if nat_lt octet 128 then (n * 128 + octet % 128) ∷ subidentifiers 0 rest else subidentifiers
    (n * 128 + octet % 128) rest

-- X.690, 8.19.4: the first two arcs share one subidentifier
abbrev pub arcs_of : List ℕ → List ℕ
arcs_of [] = []
arcs_of (x ∷ xs) = if nat_lt x 40 then 0 ∷ x ∷ xs else if nat_lt x 80 then 1 ∷
    (x - 40) ∷ xs else 2 ∷ (x - 80) ∷ xs

-- the arcs that the contents of an OBJECT IDENTIFIER name (X.690, section 8.19)
abbrev pub arcs : List ℕ → List ℕ
arcs contents = arcs_of (subidentifiers 0 contents)

-- an arc after a dot
abbrev pub point : ℕ → List ℕ
point arc = codes "." ++ decimal arc

-- the arcs in decimal digits, with dots between them
abbrev pub dotted : List ℕ → List ℕ
dotted [] = []
dotted (arc ∷ others) = decimal arc ++ flat_map point others

-- the arcs in dotted form, or x and the octets in hexadecimal digits where an arc has more than 32
-- bits
abbrev pub oid_text : List ℕ → List ℕ
oid_text contents = if list_all (λ arc. nat_lt arc (2 ^ 32)) (arcs contents) then dotted
    (arcs contents) else codes "x" ++ hex contents
