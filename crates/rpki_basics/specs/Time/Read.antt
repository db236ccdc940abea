-- Reading a time as functions on lists.
use Rattle.std.specs.Prelude.{◌≡◌, ℕ, ◌+◌, ◌-◌, ◌*◌, List, [], ◌∷◌, Option, None, Some, Bool}
use Rattle.std.specs.Prelude.{false, ◌&&◌, nat_le, nat_lt, ◌==◌, if◌then◌else◌}
use Rattle.rpki_der.specs.Read.Parse.{Parser, ◌>>=◌, primitive, is_next}
use Rattle.rpki_der.specs.Tags.{UTC_TIME, GENERALIZED_TIME}
use Rattle.rpki_basics.specs.Moment.{Moment, IsMoment, is_moment}
use Rattle.rpki_basics.specs.Time.Form.{generalized_text}

-- Whether an octet is a decimal digit.
abbrev pub is_digit : ℕ → Bool
is_digit octet = nat_le 0x30 octet && nat_le octet 0x39

-- Two decimal digits at the front, and what follows them.
unfoldable pub pair_at : List ℕ → Option (ℕ × List ℕ)
pair_at [] = None
pair_at (a ∷ []) = None
pair_at (a ∷ b ∷ rest) =
    if is_digit a && is_digit b then Some ((a - 0x30) * 10 + (b - 0x30), rest) else None

-- Whether a text is Z alone.
unfoldable pub is_zulu : List ℕ → Bool
is_zulu [] = false
is_zulu (a ∷ []) = a == 0x5A
is_zulu (a ∷ b ∷ rest) = false

-- The moment, if there is such a one.
abbrev pub checked : Moment → Option Moment
checked m = if is_moment m then Some m else None

-- The moment in that year, from what follows the year.
unfoldable pub after_year_of : ℕ → List ℕ → Option Moment
after_year_of year text = do
  month ← pair_at text
  day ← pair_at month.1
  hour ← pair_at day.1
  minute ← pair_at hour.1
  second ← pair_at minute.1
  if is_zulu second.1 then checked
      (record {
        year = year;
        month = month.0;
        day = day.0;
        hour = hour.0;
        minute =
            minute.0;
        second = second.0;
      }) else None

-- The year that two digits stand for in UTCTime.
abbrev pub full_year : ℕ → ℕ
full_year n = if nat_lt n 50 then 2000 + n else 1900 + n

-- The moment of a UTCTime.
unfoldable pub utc_of : List ℕ → Option Moment
utc_of text = pair_at text >>= λ year. after_year_of (full_year year.0) year.1

-- The moment of a GeneralizedTime.
unfoldable pub generalized_of : List ℕ → Option Moment
generalized_of text = do
  century ← pair_at text
  year ← pair_at century.1
  after_year_of (century.0 * 100 + year.0) year.1

-- A UTCTime where one is next, and else a GeneralizedTime.
unfoldable pub time_at : Parser Moment
time_at mode bytes =
    if is_next UTC_TIME bytes then primitive UTC_TIME utc_of mode bytes
    else primitive GENERALIZED_TIME generalized_of mode bytes

-- The moment that a text YYYYMMDDHHMMSSZ names, if it names one (RFC 5280, section 4.1.2.5.2).
abbrev pub IsTimeOf : List ℕ → Option Moment → Type 0
IsTimeOf text (Some m) = (text ≡ generalized_text m) × IsMoment m
IsTimeOf text None = (m : Moment) → IsMoment m → text ≡ generalized_text m → ⊥
