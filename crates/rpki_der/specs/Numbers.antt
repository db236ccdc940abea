-- Numbers of digits to base 256, and how deep values nest.
use Rattle.std.specs.Prelude.{ℕ, ◌+◌, ◌*◌, List, [], ◌∷◌, ◌==◌, if◌then◌else◌}

-- The number whose digits to base 256 are those of n and then these.
abbrev pub number : ℕ → List ℕ → ℕ
number n [] = n
number n (d ∷ ds) = number (n * 256 + d) ds

-- the least length that the long form with this number of octets is for (X.690, section 10.1)
abbrev pub least : ℕ → ℕ
least k = if k == 1 then 128 else if k == 2 then 256 else if k == 3 then 65536 else 16777216

-- How deep values may nest that are skipped, the outermost included, and the pieces of an OCTET
-- STRING. That there is a limit is this project's own rule.
abbrev pub MAX_DEPTH : ℕ
MAX_DEPTH = 32
