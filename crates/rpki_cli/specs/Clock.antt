-- Moments and counts of seconds.
use Rattle.std.specs.Prelude.{ℤ, pos, ◌+◌, ◌*◌, ◌+ℤ◌, ◌*ℤ◌, ◌≤ℤ◌, ◌<ℤ◌}
use Rattle.jiff_core.specs.Calendar.{days_from_civil}
use Rattle.rpki_basics.specs.Moment.{Moment}

-- How many seconds after 1970-01-01T00:00:00Z a moment begins, where each day has 86400 of them
-- (POSIX.1-2017, Base Definitions, section 4.16). Moments before 1970, of which that section says
-- nothing, are counted in the same way, by the Gregorian calendar.
abbrev pub seconds_to : Moment → ℤ
seconds_to m = days_from_civil (pos m.year) m.month m.day *ℤ pos 86400
    +ℤ pos (m.hour * 3600 + m.minute * 60 + m.second)

-- how many nanoseconds after 1970-01-01T00:00:00Z a moment begins
abbrev pub nanoseconds_to : Moment → ℤ
nanoseconds_to m = seconds_to m *ℤ pos 1_000_000_000

-- The moment is the second in which this number of nanoseconds after 1970-01-01T00:00:00Z lies.
pub record IsSecondOf (nanoseconds : ℤ) (m : Moment) : Type 0 where
  pub begun : nanoseconds_to m ≤ℤ nanoseconds
  pub not_ended : nanoseconds <ℤ (nanoseconds_to m +ℤ pos 1_000_000_000)
