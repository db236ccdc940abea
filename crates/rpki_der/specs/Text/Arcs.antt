-- The printing of an OBJECT IDENTIFIER, step by step.
use Rattle.std.specs.Prelude.{ℕ, ◌+◌, ◌*◌, ◌-◌, ◌%◌, ◌^◌, List, [], ◌∷◌, ◌++◌, Option, None, Some}
use Rattle.std.specs.Prelude.{Bool, true, nat_lt, if◌then◌else◌, codes, decimal}
use Rattle.std.specs.List.{list_all}

-- whether the last octet, if there is one, ends a subidentifier
abbrev pub is_whole : List ℕ → Bool
is_whole [] = true
is_whole (octet ∷ []) = nat_lt octet 128
is_whole (a ∷ b ∷ rest) = is_whole (b ∷ rest)

-- the first subidentifier and what follows it, if it is below the limit
unfoldable pub first_below : ℕ → ℕ → List ℕ → Option (ℕ × List ℕ)
first_below limit n [] = None
first_below limit n (octet ∷ rest) =
    if nat_lt (n * 128 + octet % 128) limit then
    (if nat_lt octet 128 then Some (n * 128 + octet % 128, rest) else first_below limit
    (n * 128 + octet % 128) rest) else None

-- each has at most 32 bits
abbrev pub are_small : List ℕ → Bool
are_small numbers = list_all (λ n. nat_lt n (2 ^ 32)) numbers

-- the first subidentifier as the two arcs that it stands for
abbrev pub head_text : ℕ → List ℕ
head_text x = if nat_lt x 40 then codes "0." ++ decimal x else if nat_lt x 80 then codes "1."
    ++ decimal (x - 40) else codes "2." ++ decimal (x - 80)
