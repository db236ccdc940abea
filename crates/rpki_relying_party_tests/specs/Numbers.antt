-- Places that are numbers; pairs of numbers say what each says, and which its children are.
use Rattle.std.specs.Prelude.{ℕ, ◌==◌, List, Some, None, cond, filter_map, nat_lt}

-- the second numbers of the pairs whose first number is this
abbrev pub seconds_of : ℕ → List (ℕ × ℕ) → List ℕ
seconds_of first pairs = filter_map (λ p. cond (p.0 == first) (Some (p.1)) None) pairs

-- what it costs to read a place: 1, and from this one on 100
abbrev pub cost_of : ℕ → ℕ → ℕ
cost_of dear place = cond (nat_lt place dear) 1 100
