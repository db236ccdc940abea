-- Moments of counts of seconds.
use Rattle.std.proofs.Common.{rules, ◌≡◌, ◌≤◌, ◌<◌, ◌/◌, ◌%◌, ℕ, ℤ, pos, negsuc, ◌+ℤ◌, ◌<ℤ◌, ◌≤ℤ◌}
use Rattle.std.proofs.Common.{arith, refl, subst, ap, sym, ◌∙◌}
use Rattle.std.proofs.Common.{Option, None, Some}
use Rattle.std.specs.Prelude.{MatchOption, IfSome}
use Rattle.std.specs.Int.{FitsUnsignedBits, int_div_euclid, int_rem_euclid}
use Rattle.std.proofs.lemmas.Int.{to_z-of_z}
use lib.IntN.{nat_abs}
use mir.Val.{to_z, of_z, SFits}
use mir.Syntax.{w16, w64}
use Rattle.jiff_core.specs.Calendar.{days_from_civil, days_in_month, IsCivilDate, IsEpochDay, IsYear}
use Rattle.jiff_core.specs.Date.{epoch_day}
use Rattle.jiff_core.specs.declared.civil.date.Date.{Date}
use Rattle.jiff_core.proofs.CalendarLemmas.{days_from_civil-day_count, day_count-lt_year, day_count_bounds}
use Rattle.jiff_core.proofs.DateLemmas.{civil}
use Rattle.jiff_core.proofs.SignedLemmas.{signed_arith, fits_between}
use Rattle.rpki_basics.specs.Moment.{Moment, IsMoment}
use Rattle.rpki_cli.specs.Clock.{IsSecondOf, seconds_to, nanoseconds_to}

-- the moment of a date in a year that is not negative, and of a second of the day
abbrev pub moment_in : Date → ℕ → ℕ → Moment
moment_in d year second = record {
  year = year;
  month = d.month;
  day = d.day;
  hour = second / 3600;
  minute = second / 60 % 60;
  second = second % 60;
}

pub is-moment : (d : Date) (year second : ℕ) → d.year ≡ pos year → second < 86400
    → IsMoment (moment_in d year second)
is-moment d year second e lt = record {
  year = omega (arith, signed_arith, e, d.year_in);
  some_month = d.month_in.0;
  month = omega (arith, d.month_in.1);
  some_day = d.day_in.0;
  day = subst (λ (y : ℤ). d.day ≤ days_in_month y d.month) e d.day_in.1;
  hour = omega arith;
  minute = omega arith;
  second = omega arith;
}

pub seconds-in : (d : Date) (year second : ℕ) (n : ℤ) → d.year ≡ pos year
    → epoch_day d ≡ int_div_euclid n (pos 86400) → pos second ≡ int_rem_euclid n (pos 86400)
    → seconds_to (moment_in d year second) ≡ n
seconds-in d year second n y e r =
    let day = subst (λ (z : ℤ). days_from_civil z d.month d.day ≡ int_div_euclid n (pos 86400)) y e in
    omega (arith, signed_arith)

-- the day of a moment
day-of : (m : Moment) (n : ℤ) → IsMoment m → seconds_to m ≡ n
    → days_from_civil (pos m.year) m.month m.day ≡ int_div_euclid n (pos 86400)
day-of m n i e =
    let hour = i.hour in
    let minute = i.minute in
    let second = i.second in
    omega (arith, signed_arith)

civil-of : (m : Moment) → IsMoment m → IsCivilDate (pos m.year) m.month m.day
civil-of m i = (omega (arith, signed_arith, i.year), (i.some_month, i.month), (i.some_day, i.day))

-- each moment has a day of the calendar
pub is-epoch_day : (m : Moment) (n : ℤ) → IsMoment m → seconds_to m ≡ n
    → IsEpochDay (int_div_euclid n (pos 86400))
is-epoch_day m n i e = subst (λ (day : ℤ). IsEpochDay day) (day-of m n i e)
    (omega (arith, signed_arith, days_from_civil-day_count, day_count_bounds _ _ _ (civil-of m i)))

-- each moment is later than a date in a year before year 0
pub is-later : (d : Date) (m : Moment) (n : ℤ) → epoch_day d ≡ int_div_euclid n (pos 86400)
    → d.year <ℤ pos 0 → IsMoment m → seconds_to m ≡ n → ⊥
is-later d m n h l i e =
    let same = day-of m n i e in
    let year : d.year <ℤ pos m.year = omega (arith, signed_arith) in
    let days = day_count-lt_year d.year d.month d.day (pos m.year) m.month m.day
    (civil d) i.some_day year in
    let a = days_from_civil-day_count d.year d.month d.day in
    let b = days_from_civil-day_count (pos m.year) m.month m.day in
    omega (arith, signed_arith)

-- the day of a count of seconds, by its bits
pub day-kept : (n day : ℤ) → SFits w64 n → day ≡ int_div_euclid (to_z w64 (of_z w64 n)) (pos 86400)
    → to_z w64 (of_z w64 day) ≡ int_div_euclid n (pos 86400)
day-kept n day f e =
    let same : day ≡ int_div_euclid n (pos 86400) =
    e ∙ ap (λ (z : ℤ). int_div_euclid z (pos 86400)) (to_z-of_z w64 n f) in
    to_z-of_z w64 day (fits_between w64 day (omega (arith, signed_arith, f))) ∙ same

abs-natural : (z : ℤ) → pos 0 ≤ℤ z → pos (nat_abs z) ≡ z
abs-natural (pos n) h = refl
abs-natural (negsuc n) h = absurd (omega (arith, signed_arith, h))

-- and its second of the day
pub second-kept : (n second : ℤ) → SFits w64 n
    → second ≡ int_rem_euclid (to_z w64 (of_z w64 n)) (pos 86400)
    → pos (nat_abs (to_z w64 (of_z w64 second))) ≡ int_rem_euclid n (pos 86400)
second-kept n second f e =
    let same : second ≡ int_rem_euclid n (pos 86400) =
    e ∙ ap (λ (z : ℤ). int_rem_euclid z (pos 86400)) (to_z-of_z w64 n f) in
    let fits = fits_between w64 second (omega (arith, signed_arith)) in
    ap (λ (z : ℤ). pos (nat_abs z)) (to_z-of_z w64 second fits)
    ∙ abs-natural second (omega (arith, signed_arith)) ∙ same

pub second-below : (n : ℤ) (second : ℕ) → pos second ≡ int_rem_euclid n (pos 86400)
    → second < 86400
second-below n second e = omega (arith, signed_arith)

pub not-negative : (z : ℤ) (n : ℕ) → SFits w64 (pos n) → z ≡ pos n
    → pos 0 ≤ℤ to_z w64 (of_z w64 z)
not-negative z n f e = subst (λ (x : ℤ). pos 0 ≤ℤ to_z w64 (of_z w64 x)) (sym e)
    (subst (λ (x : ℤ). pos 0 ≤ℤ x) (sym (to_z-of_z w64 (pos n) f)) (omega (arith, signed_arith)))

year-fits : (y : ℤ) → IsYear y → SFits w16 y
year-fits y i = search (rules, signed_arith)

-- a year that a cast keeps
pub year-kept : (y : ℤ) → IsYear y → to_z w16 (of_z w16 y) ≡ y
year-kept y i = to_z-of_z w16 y (year-fits y i)

pub year-negative : (y : ℤ) → IsYear y → (FitsUnsignedBits 16 y → ⊥) → y <ℤ pos 0
year-negative (pos n) i not = absurd (not (omega (arith, signed_arith, i)))
year-negative (negsuc n) i not = omega (arith, signed_arith)

pub year-natural : (y : ℤ) (n : ℕ) → FitsUnsignedBits 16 y → n ≡ nat_abs y → y ≡ pos n
year-natural (pos k) n f e = ap pos (sym e)
year-natural (negsuc k) n f e = absurd f

-- the moment of these parts, if it is one
pub moment-told : (o : Option Moment) (m : Moment) (n : ℤ)
    → MatchOption o (IsMoment m → ⊥) (λ t. (t ≡ m) × IsMoment m) → IsMoment m → seconds_to m ≡ n
    → MatchOption o ((x : Moment) → IsMoment x → seconds_to x ≡ n → ⊥)
    (λ x. IsMoment x × (seconds_to x ≡ n))
moment-told None m n told i s = absurd (told i)
moment-told (Some t) m n told i s = (
  subst (λ (x : Moment). IsMoment x) (sym told.0) i,
  subst (λ (x : Moment). seconds_to x ≡ n) (sym told.0) s,
)

-- a count of seconds from 1970 on has a moment from 1970 on
pub from-1970 : (o : Option Moment) (n : ℤ) → pos 0 ≤ℤ n
    → MatchOption o ((m : Moment) → IsMoment m → seconds_to m ≡ n → ⊥)
    (λ m. IsMoment m × (seconds_to m ≡ n))
    → IfSome o (λ m. IsMoment m × (x : ℤ) × (pos 0 ≤ℤ x) × IsSecondOf x m)
from-1970 None n le h = tt
from-1970 (Some m) n le h = (
  h.0,
  nanoseconds_to m,
  (let e = h.1 in omega (arith, signed_arith)),
  record { begun = omega (arith, signed_arith); not_ended = omega (arith, signed_arith) },
)
