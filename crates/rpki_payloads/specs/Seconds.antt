-- Counts of seconds since 1970.
use Rattle.std.specs.Prelude.{ℕ, ℤ, pos, negsuc, ◌+◌, ◌*◌, ◌+ℤ◌, ◌*ℤ◌}
use Rattle.jiff_core.specs.Calendar.{days_from_civil}
use Rattle.rpki_basics.specs.Moment.{Moment}

-- How many seconds after 1970-01-01T00:00:00Z a moment begins, where each day has 86400 of them
-- (POSIX.1-2017, Base Definitions, section 4.16), by the Gregorian calendar.
abbrev pub seconds_to : Moment → ℤ
seconds_to m = days_from_civil (pos m.year) m.month m.day *ℤ pos 86400
    +ℤ pos (m.hour * 3600 + m.minute * 60 + m.second)

-- the number, and 0 for a negative one
abbrev pub from_zero : ℤ → ℕ
from_zero (pos n) = n
from_zero (negsuc n) = 0

-- The count of seconds since 1970-01-01T00:00:00Z; 0 for a moment before, of which that section says
-- nothing.
abbrev pub seconds_since : Moment → ℕ
seconds_since m = from_zero (seconds_to m)
