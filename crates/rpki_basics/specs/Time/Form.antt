-- The octets and the texts of a time. The sections are those of RFC 5280.
use Rattle.std.specs.Prelude.{◌≡◌, ℕ, ◌+◌, ◌/◌, ◌%◌, ◌≤◌, ◌<◌, List, [], ◌∷◌, ◌++◌, codes}
use Rattle.std.specs.Prelude.{Bool, nat_le, nat_lt, ◌&&◌, if◌then◌else◌}
use Rattle.rpki_der.specs.declared.mode.Mode.{Mode}
use Rattle.rpki_der.specs.Grammar.{Within}
use Rattle.rpki_der.specs.Form.Made.{Choice}
use Rattle.rpki_der.specs.Write.Written.{value_octets}
use Rattle.rpki_der.specs.Tags.{UTC_TIME, GENERALIZED_TIME}
use Rattle.rpki_basics.specs.Moment.{Moment, IsMoment}

-- A number below 100 in two decimal digits.
abbrev pub two_digits : ℕ → List ℕ
two_digits n = (0x30 + n / 10) ∷ (0x30 + n % 10) ∷ []

-- Month, day, hour, minute and second in two digits each, and Z.
abbrev pub after_year : Moment → List ℕ
after_year m =
    two_digits m.month ++ (two_digits m.day ++ (two_digits m.hour ++ (two_digits m.minute
    ++ (two_digits m.second ++ codes "Z"))))

-- YYMMDDHHMMSSZ (section 4.1.2.5.1)
abbrev pub utc_text : Moment → List ℕ
utc_text m = two_digits (m.year % 100) ++ after_year m

-- YYYYMMDDHHMMSSZ (section 4.1.2.5.2)
abbrev pub generalized_text : Moment → List ℕ
generalized_text m = two_digits (m.year / 100) ++ (two_digits (m.year % 100) ++ after_year m)

-- The years of UTCTime: 50 to 99 are 1950 to 1999, and 00 to 49 are 2000 to 2049 (section
-- 4.1.2.5.1).
abbrev pub IsUtcYear : ℕ → Type 0
IsUtcYear year = (1950 ≤ year) × (year < 2050)

-- The contents of a UTCTime of a real moment (section 4.1.2.5.1).
abbrev pub IsUtcTime : List ℕ → Moment → Type 0
IsUtcTime contents m = (contents ≡ utc_text m) × IsUtcYear m.year × IsMoment m

-- The contents of a GeneralizedTime of a real moment (section 4.1.2.5.2).
abbrev pub IsGeneralizedTime : List ℕ → Moment → Type 0
IsGeneralizedTime contents m = (contents ≡ generalized_text m) × IsMoment m

-- CHOICE { UTCTime, GeneralizedTime } of a real moment (section 4.1). That a GeneralizedTime may
-- name a year of 1950 to 2049 too, against section 4.1.2.5, is this project's own rule, and so is
-- that both are primitive in BER too, where X.690, sections 8.23 and 8.25, allow pieces.
abbrev pub TimeForm : Mode → List ℕ → Moment → Type 0
TimeForm mode octets m = Choice
    (λ o m. Within mode UTC_TIME (λ c. IsUtcTime c m) o)
    (λ o m. Within mode GENERALIZED_TIME (λ c. IsGeneralizedTime c m) o) octets m

-- Whether the year is one of UTCTime.
abbrev pub is_utc_year : ℕ → Bool
is_utc_year year = nat_le 1950 year && nat_lt year 2050

-- The moment as GeneralizedTime.
abbrev pub generalized_octets : Moment → List ℕ
generalized_octets m = value_octets GENERALIZED_TIME (generalized_text m)

-- The moment as UTCTime in the years 1950 to 2049, and else as GeneralizedTime (section 4.1.2.5;
-- before 1950 RFC 5652, section 11.3).
abbrev pub time_octets : Moment → List ℕ
time_octets m =
    if is_utc_year m.year then value_octets UTC_TIME (utc_text m) else generalized_octets m

-- The moment as a GeneralizedTime where this is asked for, and else as certificates have it
-- (`time_octets`).
abbrev pub encoded_time : Bool → Moment → List ℕ
encoded_time generalized m = if generalized then generalized_octets m else time_octets m

-- YYYY-MM-DDTHH:MM:SSZ (RFC 3339, section 5.6)
abbrev pub iso_text : Moment → List ℕ
iso_text m =
    two_digits (m.year / 100) ++ (two_digits (m.year % 100) ++ (codes "-" ++ (two_digits m.month
    ++ (codes "-" ++ (two_digits m.day ++ (codes "T" ++ (two_digits m.hour ++ (codes ":"
    ++ (two_digits m.minute ++ (codes ":" ++ (two_digits m.second ++ codes "Z")))))))))))
