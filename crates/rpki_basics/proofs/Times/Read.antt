-- Values that are times are read exactly.
use Rattle.rpki_der.specs.Tags.{GENERALIZED_TIME, UTC_TIME}
use Rattle.std.proofs.Common.{◌≡◌, ℕ, true, false, List, ◌++◌, Option, Some, None, refl, sym, ◌∙◌}
use Rattle.std.proofs.Common.{inl, inr}
use Rattle.rpki_der.specs.declared.mode.Mode.{Mode}
use Rattle.rpki_der.specs.declared.mode.Mode.TheVariants.{Der, Ber}
use Rattle.rpki_der.specs.Read.Parse.{is_next, Finds}
use Rattle.rpki_der.specs.Read.Exact.{IsExact, IsReading, anything}
use Rattle.rpki_der.proofs.Reading.Lengths.{chosen}
use Rattle.rpki_der.proofs.Reading.Exact.{exact-primitive}
use Rattle.rpki_der.proofs.Reading.Lists.{begins-within}
use Rattle.rpki_der.proofs.Reading.Unique.{reading, within-ber}
use Rattle.rpki_der.specs.Form.Law.{nothing, is, or, IsPart}
use Rattle.rpki_der.proofs.Form.Words.{part}
use Rattle.rpki_basics.specs.Moment.{Moment}
use Rattle.rpki_basics.specs.Time.Form.{IsUtcTime, IsGeneralizedTime, TimeForm}
use Rattle.rpki_basics.specs.Time.Read.{utc_of, generalized_of, time_at, IsTimeOf}
use Rattle.rpki_basics.proofs.Times.Exact.{exact-utc, exact-generalized, generalized-sound}

pub exact-time : (mode : Mode) → IsExact anything (time_at mode) (TimeForm mode)
unfolding time_at
exact-time mode =
    let utc = exact-primitive UTC_TIME utc_of mode IsUtcTime exact-utc in
    let generalized = exact-primitive GENERALIZED_TIME generalized_of mode IsGeneralizedTime
    exact-generalized in
    record {
      sound = λ b m r bytes e.
          elim (chosen (is_next UTC_TIME b) _ _ _ e) [
            | inl h ↦ let f = utc.sound b m r bytes h.1 in (f.0, f.1, inl f.2)
            | inr h ↦ let f = generalized.sound b m r bytes h.1 in (f.0, f.1, inr f.2)
          ];
      complete = λ o m r er h. elim h [
        | inl k ↦
            let t = (begins-within UTC_TIME mode IsUtcTime).at o m k in
            let next : is_next UTC_TIME (o ++ r) ≡ true = rw t.1 refl in
            rw next (utc.complete o m r tt k)
        | inr k ↦
            let t = (begins-within GENERALIZED_TIME mode IsGeneralizedTime).at o m k in
            let next : is_next UTC_TIME (o ++ r) ≡ false = rw t.1 refl in
            rw next (generalized.complete o m r tt k)
      ];
    }

time-ber : (o : List ℕ) (m : Moment) → TimeForm Der o m → TimeForm Ber o m
time-ber o m (inl h) =
    inl (within-ber UTC_TIME (λ c. IsUtcTime c m) (λ c. IsUtcTime c m) (λ c k. k) o h)
time-ber o m (inr h) =
    inr (within-ber GENERALIZED_TIME (λ c. IsGeneralizedTime c m) (λ c. IsGeneralizedTime c m)
    (λ c k. k) o h)

pub time-reading : IsReading time_at TimeForm
time-reading = reading time_at TimeForm exact-time time-ber
    (λ mode o m h. elim h [ inl k ↦ (UTC_TIME, k.0, k.1) | inr k ↦ (GENERALIZED_TIME, k.0, k.1) ])

pub time-part : IsPart (or (is UTC_TIME) (is GENERALIZED_TIME)) nothing time_at TimeForm
time-part = part (or (is UTC_TIME) (is GENERALIZED_TIME)) time-reading (λ mode o m h. elim h [
  | inl k ↦ let t = (begins-within UTC_TIME mode IsUtcTime).at o m k in (UTC_TIME, t.0, t.1, refl)
  | inr k ↦ let t = (begins-within GENERALIZED_TIME mode IsGeneralizedTime).at o m k in
      (GENERALIZED_TIME, t.0, t.1, refl)
])

-- What is found in a text is the moment that it names.
pub time-of : (text : List ℕ) (found : Option Moment)
    → Finds (λ m. m) found (generalized_of text) → IsTimeOf text found
time-of text (Some m) h = generalized-sound text m h
time-of text None h = λ m real e.
    let some : generalized_of text ≡ Some m = exact-generalized.complete text m (e, real) in
    absurd (let bad : (let o : Option Moment = None in o) ≡ Some m = sym h ∙ some in cc)
