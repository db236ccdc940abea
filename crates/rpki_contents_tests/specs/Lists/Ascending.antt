-- A rule over numbers.
use Rattle.std.specs.Prelude.{ℕ, Option, None, Some, nat_lt, if◌then◌else◌}

-- after a number it is the last one, if it is above the one before
abbrev pub above_last : Option ℕ → ℕ → Option (Option ℕ)
above_last None n = Some (Some n)
above_last (Some last) n = if nat_lt last n then Some (Some n) else None
