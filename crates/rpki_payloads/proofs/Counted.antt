-- Counts of seconds.
use Rattle.std.proofs.Common.{◌≡◌, ℕ, ◌+◌, ◌*◌, ◌/◌, ◌%◌, ◌<◌, ◌≤◌, min, ℤ, pos, negsuc}
use Rattle.std.proofs.Common.{◌+ℤ◌, ◌*ℤ◌, ◌≤ℤ◌, ◌<ℤ◌, arith, refl, sym, ap, subst, ◌∙◌}
use Rattle.std.specs.Int.{FitsUnsignedBits}
use Rattle.std.proofs.lemmas.Int.{to_z-of_z}
use lib.IntN.{nat_abs}
use mir.Val.{to_z, of_z}
use mir.Syntax.{w16, w32}
use Rattle.jiff_core.specs.Calendar.{days_from_civil, days_in_month, IsCivilDate, IsEpochDay}
use Rattle.jiff_core.proofs.CalendarLemmas.{days_from_civil-day_count, day_count_bounds}
use Rattle.jiff_core.proofs.CalendarLemmas.{days_in_month_bounds}
use Rattle.jiff_core.proofs.SignedLemmas.{signed_arith, signed_casts, fits_between}
use Rattle.rpki_basics.specs.Moment.{Moment, IsMoment, stamp}
use Rattle.rpki_payloads.specs.Seconds.{from_zero, seconds_since}

civil-of : (m : Moment) → IsMoment m → IsCivilDate (pos m.year) m.month m.day
civil-of m i = (omega (arith, signed_arith, i.year), (i.some_month, i.month), (i.some_day, i.day))

-- ---- the number of a day, and the second of the day

day-part : (m : Moment) → IsMoment m → stamp m / 86400 ≡ (m.year * 13 + m.month) * 32 + m.day
day-part m i =
    let hour = i.hour in
    let minute = i.minute in
    let second = i.second in
    omega arith

second-part : (m : Moment) → IsMoment m
    → stamp m % 86400 ≡ m.hour * 3600 + m.minute * 60 + m.second
second-part m i =
    let hour = i.hour in
    let minute = i.minute in
    let second = i.second in
    omega arith

year-part : (m : Moment) → IsMoment m → stamp m / 86400 / 32 / 13 ≡ m.year
year-part m i =
    let month = i.month in
    let day = i.day in
    let most = days_in_month_bounds (pos m.year) m.month in
    rw (day-part m i) (omega arith)

month-part : (m : Moment) → IsMoment m → stamp m / 86400 / 32 % 13 ≡ m.month
month-part m i =
    let month = i.month in
    let day = i.day in
    let most = days_in_month_bounds (pos m.year) m.month in
    rw (day-part m i) (omega arith)

number-part : (m : Moment) → IsMoment m → stamp m / 86400 % 32 ≡ m.day
number-part m i =
    let day = i.day in
    let most = days_in_month_bounds (pos m.year) m.month in
    rw (day-part m i) (omega arith)

year-kept : (k : ℕ) → k ≤ 9999 → to_z w16 k ≡ pos k
year-kept k h = omega (arith, signed_casts)

below-zero : (z : ℤ) → z <ℤ pos 0 → from_zero z ≡ 0
below-zero (pos n) h = absurd (omega (arith, signed_arith, h))
below-zero (negsuc n) h = refl

-- the day is none before 1970
count-from : (z : ℤ) (day s : ℕ) → FitsUnsignedBits 64 z → day ≡ nat_abs z
    → day * 86400 + s ≡ from_zero (z *ℤ pos 86400 +ℤ pos s)
count-from (pos k) day s f e =
    let sum : pos k *ℤ pos 86400 +ℤ pos s ≡ pos (k * 86400 + s) = omega (arith, signed_arith) in
    ap (λ n. n * 86400 + s) e ∙ sym (ap from_zero sum)
count-from (negsuc k) day s f e = absurd f

-- the day is one before 1970
count-before : (z : ℤ) (s : ℕ) → (FitsUnsignedBits 64 z → ⊥) → z ≤ℤ pos 2932896 → s < 86400
    → 0 ≡ from_zero (z *ℤ pos 86400 +ℤ pos s)
count-before (pos k) s not most lt = absurd (not (omega (arith, signed_arith, most)))
count-before (negsuc k) s not most lt =
    sym (below-zero (negsuc k *ℤ pos 86400 +ℤ pos s) (omega (arith, signed_arith)))

module _ (m : Moment) (i : IsMoment m) (n : ℕ) (y : ℤ) (month day : ℕ) (e : ℤ)
    (stamped : n ≡ stamp m) (has-year : y ≡ to_z w16 (n / 86400 / 32 / 13))
    (has-month : month ≡ n / 86400 / 32 % 13)
    (has-day : day ≡ min (n / 86400 % 32)
    (days_in_month (to_z w16 (n / 86400 / 32 / 13)) (n / 86400 / 32 % 13)))
    (is : e ≡ days_from_civil y month day) (real : IsEpochDay e) where
  year-same : to_z w16 (n / 86400 / 32 / 13) ≡ pos m.year
  year-same = ap (λ k. to_z w16 (k / 86400 / 32 / 13)) stamped ∙ ap (to_z w16) (year-part m i)
      ∙ year-kept m.year i.year

  month-same : n / 86400 / 32 % 13 ≡ m.month
  month-same = ap (λ k. k / 86400 / 32 % 13) stamped ∙ month-part m i

  day-same : day ≡ m.day
  day-same =
      let number = ap (λ k. k / 86400 % 32) stamped ∙ number-part m i in
      let least : min m.day (days_in_month (pos m.year) m.month) ≡ m.day = omega (arith, i.day) in
      has-day ∙ ap (λ k. min k (days_in_month (to_z w16 (n / 86400 / 32 / 13))
      (n / 86400 / 32 % 13))) number
      ∙ ap (λ (z : ℤ). min m.day (days_in_month z (n / 86400 / 32 % 13))) year-same
      ∙ ap (λ k. min m.day (days_in_month (pos m.year) k)) month-same ∙ least

  day-of : to_z w32 (of_z w32 e) ≡ days_from_civil (pos m.year) m.month m.day
  day-of =
      to_z-of_z w32 e (fits_between w32 e (omega (arith, signed_arith, real))) ∙ is
      ∙ ap (λ (z : ℤ). days_from_civil z month day) (has-year ∙ year-same)
      ∙ ap (λ k. days_from_civil (pos m.year) k day) (has-month ∙ month-same)
      ∙ ap (λ k. days_from_civil (pos m.year) m.month k) day-same

  second-same : n % 86400 ≡ m.hour * 3600 + m.minute * 60 + m.second
  second-same = ap (λ k. k % 86400) stamped ∙ second-part m i

  pub counted-from : (number : ℕ) → FitsUnsignedBits 64 (to_z w32 (of_z w32 e))
      → number ≡ nat_abs (to_z w32 (of_z w32 e))
      → number * 86400 + n % 86400 ≡ seconds_since m
  counted-from number f k =
      ap (λ s. number * 86400 + s) second-same
      ∙ count-from (days_from_civil (pos m.year) m.month m.day) number
      (m.hour * 3600 + m.minute * 60 + m.second)
      (subst (λ (z : ℤ). FitsUnsignedBits 64 z) day-of f) (k ∙ ap nat_abs day-of)

  pub counted-before : (FitsUnsignedBits 64 (to_z w32 (of_z w32 e)) → ⊥) → 0 ≡ seconds_since m
  counted-before not =
      let most = days_from_civil-day_count (pos m.year) m.month m.day in
      let all = day_count_bounds (pos m.year) m.month m.day (civil-of m i) in
      let hour = i.hour in
      let minute = i.minute in
      let second = i.second in
      count-before (days_from_civil (pos m.year) m.month m.day)
      (m.hour * 3600 + m.minute * 60 + m.second)
      (λ f. not (subst (λ (z : ℤ). FitsUnsignedBits 64 z) (sym day-of) f))
      (omega (arith, signed_arith)) (omega arith)
