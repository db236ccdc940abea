-- Moments in UTC, to the second.
use Rattle.std.specs.Prelude.{◌≡◌, ℕ, ◌+◌, ◌*◌, ◌≤◌, ◌<◌, ◌⊎◌, Bool, ◌&&◌, nat_le, nat_lt, pos}
use Rattle.jiff.specs.Words.{days_in_month}

-- A day, and a second of that day.
pub record Moment : Type 0 where
  pub year : ℕ
  pub month : ℕ
  pub day : ℕ
  pub hour : ℕ
  pub minute : ℕ
  pub second : ℕ

-- The year is 9999 at most, the Gregorian calendar has the day, and the day has the second (RFC
-- 5280, section 4.1.2.5). That there are no leap seconds is this project's own rule.
pub record IsMoment (m : Moment) : Type 0 where
  pub year : m.year ≤ 9999
  pub some_month : 1 ≤ m.month
  pub month : m.month ≤ 12
  pub some_day : 1 ≤ m.day
  pub day : m.day ≤ days_in_month (pos m.year) m.month
  pub hour : m.hour < 24
  pub minute : m.minute < 60
  pub second : m.second < 60

-- whether the numbers are those of a day of the calendar and a second of it
abbrev pub is_moment : Moment → Bool
is_moment m =
    nat_le m.year 9999 && nat_le 1 m.month && nat_le m.month 12 && nat_le 1 m.day
    && nat_le m.day (days_in_month (pos m.year) m.month)
    && nat_lt m.hour 24 && nat_lt m.minute 60 && nat_lt m.second 60

-- A number for each moment, which grows with time. It is no count of seconds: a year has room for
-- 13 months in it and a month for 32 days, so that each part is below the factor before it.
abbrev pub stamp : Moment → ℕ
stamp m =
    ((((m.year * 13 + m.month) * 32 + m.day) * 24 + m.hour) * 60 + m.minute) * 60 + m.second

-- The first moment is earlier: in the first of year, month, day, hour, minute and second in which
-- they differ.
abbrev pub IsEarlier : Moment → Moment → Type 0
IsEarlier a b =
    (a.year < b.year) ⊎ ((a.year ≡ b.year) × ((a.month < b.month)
    ⊎ ((a.month ≡ b.month) × ((a.day < b.day)
    ⊎ ((a.day ≡ b.day) × ((a.hour < b.hour)
    ⊎ ((a.hour ≡ b.hour) × ((a.minute < b.minute)
    ⊎ ((a.minute ≡ b.minute) × (a.second < b.second))))))))))

-- What lies between two moments, both of which belong to it (RFC 5280, section 4.1.2.5).
pub record Period : Type 0 where
  pub not_before : Moment
  pub not_after : Moment
