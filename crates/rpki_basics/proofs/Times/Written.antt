-- What is written of a time is in its form.
use Rattle.rpki_der.specs.Tags.{GENERALIZED_TIME, UTC_TIME}
use Rattle.std.proofs.Common.{◌++◌, Some, ap, ◌∙◌, ◌≡◌, ℕ, Bool, true, false, cond, List, inl, inr}
use Rattle.std.proofs.Common.{refl, arith}
use Rattle.std.specs.Prelude.{◌⊎◌, nat_le, nat_lt}
use Rattle.rpki_der.specs.declared.mode.Mode.{Mode}
use Rattle.rpki_der.specs.declared.mode.Mode.TheVariants.{Ber, Der}
use Rattle.rpki_der.specs.Grammar.{IsBytes}
use Rattle.rpki_der.proofs.Writing.Lengths.{value-unique, value-written}
use Rattle.rpki_basics.specs.Time.Read.{time_at}
use Rattle.rpki_basics.proofs.Times.Read.{exact-time, time-reading}
use Rattle.std.proofs.lemmas.Bool.{leb-true, ltb-true, and_parts}
use Rattle.rpki_der.specs.Write.Written.{value_octets}
use Rattle.rpki_der.proofs.Reading.Scan.{tag-sound}
use Rattle.rpki_basics.specs.Moment.{Moment, IsMoment}
use Rattle.rpki_basics.specs.Time.Form.{TimeForm, IsUtcYear, utc_text, generalized_text}
use Rattle.rpki_basics.specs.Time.Form.{is_utc_year}
use Rattle.rpki_basics.specs.Time.Form.{generalized_octets, time_octets}

pub generalized-written : (m : Moment) → IsMoment m → TimeForm Der (generalized_octets m) m
generalized-written m h =
    inr (
      generalized_text m,
      value-written GENERALIZED_TIME (generalized_text m) (tag-sound GENERALIZED_TIME refl)
          (omega arith),
      (refl, h),
    )

written-by : (t : Bool) (m : Moment) → is_utc_year m.year ≡ t → IsMoment m
    → TimeForm Der (cond t (value_octets UTC_TIME (utc_text m)) (generalized_octets m)) m
written-by true m e h =
    let y = and_parts (nat_le 1950 m.year) (nat_lt m.year 2050) e in
    inl (
      utc_text m,
      value-written UTC_TIME (utc_text m) (tag-sound UTC_TIME refl) (omega arith),
      (refl, (leb-true _ _ y.0, ltb-true _ _ y.1), h),
    )
written-by false m e h = generalized-written m h

pub time-written : (m : Moment) → IsMoment m → TimeForm Der (time_octets m) m
time-written m h = written-by (is_utc_year m.year) m refl h

-- In DER there are these two octets at most for a moment.
pub time-only : (o : List ℕ) (m : Moment) → IsBytes o → TimeForm Der o m
    → (IsUtcYear m.year × (o ≡ value_octets UTC_TIME (utc_text m))) ⊎ (o ≡ generalized_octets m)
time-only o m bytes (inl h) =
    inl (h.2.1, value-unique o UTC_TIME h.0 bytes h.1 ∙ ap (value_octets UTC_TIME) h.2.0)
time-only o m bytes (inr h) =
    inr (value-unique o GENERALIZED_TIME h.0 bytes h.1 ∙ ap (value_octets GENERALIZED_TIME) h.2.0)

-- What is in the form in DER is read in both modes.
form-read : (mode : Mode) (o : List ℕ) (m : Moment) (rest : List ℕ) → TimeForm Der o m
    → time_at mode (o ++ rest) ≡ Some (m, rest)
form-read Der o m rest h = (exact-time Der).complete o m rest tt h
form-read Ber o m rest h = (exact-time Ber).complete o m rest tt (time-reading.relaxed o m h)

pub time-read : (mode : Mode) (m : Moment) (rest : List ℕ) → IsMoment m
    → time_at mode (time_octets m ++ rest) ≡ Some (m, rest)
time-read mode m rest h = form-read mode (time_octets m) m rest (time-written m h)

pub generalized-read : (mode : Mode) (m : Moment) (rest : List ℕ) → IsMoment m
    → time_at mode (generalized_octets m ++ rest) ≡ Some (m, rest)
generalized-read mode m rest h =
    form-read mode (generalized_octets m) m rest (generalized-written m h)
