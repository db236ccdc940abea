-- Times are read exactly.
use Rattle.std.proofs.Common.{◌≡◌, ℕ, ◌+◌, ◌-◌, ◌*◌, ◌/◌, ◌%◌, ◌≤◌, ◌<◌, Bool, true, false, cond}
use Rattle.std.proofs.Common.{ltb, List, [], ◌∷◌, ◌++◌, Option, Some, None, refl, sym, ap, subst}
use Rattle.std.proofs.Common.{◌∙◌, arith, inl, inr}
use Rattle.std.specs.Prelude.{◌&&◌, nat_le, nat_lt, pos}
use Rattle.jiff.specs.Words.{days_in_month}
use Rattle.std.proofs.lemmas.Bool.{eqb-true, leb-true, le-leb, ltb-true, ltb-false, lt-ltb}
use Rattle.std.proofs.lemmas.Bool.{and_parts, and_from}
use Rattle.rpki_der.proofs.Reading.Lengths.{bind_some, chosen, some_is}
use Rattle.rpki_der.proofs.Reading.Exact.{IsExactContents}
use Rattle.rpki_basics.specs.Moment.{Moment, IsMoment, is_moment}
use Rattle.rpki_basics.specs.Time.Form.{two_digits, after_year, utc_text, generalized_text}
use Rattle.rpki_basics.specs.Time.Form.{IsUtcYear}
use Rattle.rpki_basics.specs.Time.Read.{is_digit, pair_at, is_zulu, checked, after_year_of}
use Rattle.rpki_basics.specs.Time.Read.{full_year, utc_of, generalized_of}

-- ---- two digits

abbrev value : ℕ → ℕ → ℕ
value a b = (a - 48) * 10 + (b - 48)

digits-are : (a b : ℕ) → 48 ≤ a → a ≤ 57 → 48 ≤ b → b ≤ 57
    → (48 + value a b / 10 ≡ a) × (48 + value a b % 10 ≡ b) × (value a b < 100)
digits-are a b h k l m = (omega arith, omega arith, omega arith)

pub pair-sound : (b : List ℕ) (n : ℕ) (r : List ℕ) → pair_at b ≡ Some (n, r)
    → (b ≡ two_digits n ++ r) × (n < 100)
unfolding pair_at
pair-sound [] n r e = absurd cc
pair-sound (a ∷ []) n r e = absurd cc
pair-sound (a ∷ b ∷ rest) n r e =
    elim (chosen (is_digit a && is_digit b) (Some (value a b, rest)) None (Some (n, r)) e) [
      | inl h ↦
          let q : (let t : ℕ × List ℕ = (value a b, rest) in t) ≡ (n, r) = some_is _ _ h.1 in
          let both = and_parts (is_digit a) (is_digit b) h.0 in
          let x = and_parts (nat_le 48 a) (nat_le a 57) both.0 in
          let y = and_parts (nat_le 48 b) (nat_le b 57) both.1 in
          let d = digits-are a b (leb-true _ _ x.0) (leb-true _ _ x.1) (leb-true _ _ y.0)
          (leb-true _ _ y.1) in
          let here : (a ∷ b ∷ rest ≡ two_digits (value a b) ++ rest)
          × (value a b < 100) = (cc, d.2) in
          subst (λ (t : ℕ × List ℕ). (a ∷ b ∷ rest ≡ two_digits t.0 ++ t.1) × (t.0 < 100)) q here
      | inr h ↦ absurd (let no : (let t : Option (ℕ × List ℕ) = None in t) ≡ Some (n, r) = h.1 in
          cc)
    ]

pub pair-read : (n : ℕ) (r : List ℕ) → n < 100 → pair_at (two_digits n ++ r) ≡ Some (n, r)
unfolding pair_at
pair-read n r h =
    let a : nat_le 48 (48 + n / 10) ≡ true = le-leb _ _ (omega arith) in
    let b : nat_le (48 + n / 10) 57 ≡ true = le-leb _ _ (omega arith) in
    let c : nat_le 48 (48 + n % 10) ≡ true = le-leb _ _ (omega arith) in
    let d : nat_le (48 + n % 10) 57 ≡ true = le-leb _ _ (omega arith) in
    let is : value (48 + n / 10) (48 + n % 10) ≡ n = omega arith in
    rw (a, b, c, d) (ap (λ (m : ℕ). (let o : Option (ℕ × List ℕ) = Some (m, r) in o)) is)

-- ---- a real moment

pub moment-true : (m : Moment) → is_moment m ≡ true → IsMoment m
moment-true m e =
    let a = and_parts _ (nat_lt m.second 60) e in
    let b = and_parts _ (nat_lt m.minute 60) a.0 in
    let c = and_parts _ (nat_lt m.hour 24) b.0 in
    let d = and_parts _ (nat_le m.day (days_in_month (pos m.year) m.month)) c.0 in
    let f = and_parts _ (nat_le 1 m.day) d.0 in
    let g = and_parts _ (nat_le m.month 12) f.0 in
    let h = and_parts (nat_le m.year 9999) (nat_le 1 m.month) g.0 in
    record {
      year = leb-true _ _ h.0;
      some_month = leb-true _ _ h.1;
      month = leb-true _ _ g.1;
      some_day = leb-true _ _ f.1;
      day = leb-true _ _ d.1;
      hour = ltb-true _ _ c.1;
      minute = ltb-true _ _ b.1;
      second = ltb-true _ _ a.1;
    }

pub moment-is : (m : Moment) → IsMoment m → is_moment m ≡ true
moment-is m h =
    and_from _ _ (and_from _ _
    (and_from _ _ (and_from _ _
    (and_from _ _ (and_from _ _ (and_from _ _ (le-leb _ _ h.year) (le-leb _ _ h.some_month))
    (le-leb _ _ h.month)) (le-leb _ _ h.some_day)) (le-leb _ _ h.day))
    (lt-ltb _ _ h.hour)) (lt-ltb _ _ h.minute)) (lt-ltb _ _ h.second)

pub checked-some : (m n : Moment) → checked m ≡ Some n → IsMoment m × (m ≡ n)
checked-some m n e =
    elim (chosen (is_moment m) (Some m) None (Some n) e) [
      | inl h ↦ (moment-true m h.0, some_is _ _ h.1)
      | inr h ↦ absurd (let no : (let t : Option Moment = None in t) ≡ Some n = h.1 in cc)
    ]

pub checked-is : (m : Moment) → IsMoment m → checked m ≡ Some m
checked-is m h = rw (moment-is m h) refl

-- ---- Z

zulu-sound : (c : List ℕ) → is_zulu c ≡ true → c ≡ 90 ∷ []
unfolding is_zulu
zulu-sound [] e = absurd cc
zulu-sound (a ∷ []) e = ap (λ (n : ℕ). n ∷ []) (eqb-true a 90 e)
zulu-sound (a ∷ b ∷ c) e = absurd cc

zulu-is : is_zulu (90 ∷ []) ≡ true
unfolding is_zulu
zulu-is = refl

-- ---- what follows the year

abbrev moment : ℕ → ℕ → ℕ → ℕ → ℕ → ℕ → Moment
moment year month day hour minute second =
    record { year = year; month = month; day = day; hour = hour; minute = minute; second = second }

text-of : (c r1 r2 r3 r4 r5 : List ℕ) (year month day hour minute second : ℕ)
    → c ≡ two_digits month ++ r1 → r1 ≡ two_digits day ++ r2 → r2 ≡ two_digits hour ++ r3
    → r3 ≡ two_digits minute ++ r4 → r4 ≡ two_digits second ++ r5 → r5 ≡ 90 ∷ []
    → c ≡ after_year (moment year month day hour minute second)
text-of c r1 r2 r3 r4 r5 year month day hour minute second a b d e f g =
    a ∙ ap (λ (t : List ℕ). two_digits month ++ t)
    (b ∙ ap (λ (t : List ℕ). two_digits day ++ t)
    (d ∙ ap (λ (t : List ℕ). two_digits hour ++ t)
    (e ∙ ap (λ (t : List ℕ). two_digits minute ++ t)
    (f ∙ ap (λ (t : List ℕ). two_digits second ++ t) g))))

pub after-sound : (year : ℕ) (c : List ℕ) (m : Moment) → after_year_of year c ≡ Some m
    → (c ≡ after_year m) × (m.year ≡ year) × IsMoment m
unfolding after_year_of
after-sound year c m e =
    let mo = bind_some (pair_at c) _ m e in
    let d = bind_some (pair_at mo.0.1) _ m mo.2 in
    let h = bind_some (pair_at d.0.1) _ m d.2 in
    let mi = bind_some (pair_at h.0.1) _ m h.2 in
    let s = bind_some (pair_at mi.0.1) _ m mi.2 in
    let p1 = pair-sound c mo.0.0 mo.0.1 mo.1 in
    let p2 = pair-sound mo.0.1 d.0.0 d.0.1 d.1 in
    let p3 = pair-sound d.0.1 h.0.0 h.0.1 h.1 in
    let p4 = pair-sound h.0.1 mi.0.0 mi.0.1 mi.1 in
    let p5 = pair-sound mi.0.1 s.0.0 s.0.1 s.1 in
    let n : Moment = moment year mo.0.0 d.0.0 h.0.0 mi.0.0 s.0.0 in
    elim (chosen (is_zulu s.0.1) (checked n) None (Some m) s.2) [
      | inl z ↦
          let last = zulu-sound s.0.1 z.0 in
          let real = checked-some n m z.1 in
          let text : c ≡ after_year n =
          text-of c _ _ _ _ _ year mo.0.0 d.0.0 h.0.0 mi.0.0 s.0.0 p1.0 p2.0 p3.0 p4.0 p5.0 last
          in
          subst (λ (t : Moment). (c ≡ after_year t) × (t.year ≡ year) × IsMoment t) real.1
          (text, refl, real.0)
      | inr z ↦ absurd (let no : (let t : Option Moment = None in t) ≡ Some m = z.1 in cc)
    ]

month-small : (y : ℕ) (m d : ℕ) → d ≤ days_in_month (pos y) m → d < 100
month-small y m d h = grind arith

pub after-read : (m : Moment) → IsMoment m → after_year_of m.year (after_year m) ≡ Some m
unfolding after_year_of
after-read m h =
    rw (pair-read m.month
    (two_digits m.day ++ (two_digits m.hour
    ++ (two_digits m.minute ++ (two_digits m.second ++ 90 ∷ [])))) (omega (arith, h.month)))
    (rw (pair-read m.day (two_digits m.hour
    ++ (two_digits m.minute ++ (two_digits m.second ++ 90 ∷ [])))
    (month-small m.year m.month m.day h.day))
    (rw (pair-read m.hour (two_digits m.minute ++ (two_digits m.second ++ 90 ∷ []))
    (omega (arith, h.hour)))
    (rw (pair-read m.minute (two_digits m.second ++ 90 ∷ []) (omega (arith, h.minute)))
    (rw (pair-read m.second (90 ∷ []) (omega (arith, h.second)))
    (rw zulu-is (checked-is m h))))))

-- ---- the two texts

year-full : (n : ℕ) → n < 100
    → (1950 ≤ full_year n) × (full_year n < 2050) × (full_year n % 100 ≡ n)
year-full n h =
    elim (chosen (ltb n 50) true false (ltb n 50) (itself (ltb n 50))) [
      | inl e ↦ let l : n < 50 = ltb-true _ _ e.0 in rw e.0 (omega arith, omega arith, omega arith)
      | inr e ↦ let l : 50 ≤ n = ltb-false _ _ e.0 in rw e.0 (omega arith, omega arith, omega arith)
    ]
  where
    itself : (b : Bool) → cond b true false ≡ b
    itself true = refl
    itself false = refl

full-again : (year : ℕ) → 1950 ≤ year → year < 2050 → full_year (year % 100) ≡ year
full-again year h k = full-by (year % 100) year refl h k
  where
    full-by : (n year : ℕ) → year % 100 ≡ n → 1950 ≤ year → year < 2050 → full_year n ≡ year
    full-by n year e h k = grind arith

utc-of : (c r : List ℕ) (m : Moment) (n : ℕ) → c ≡ two_digits n ++ r → r ≡ after_year m
    → m.year ≡ full_year n → (1950 ≤ full_year n) × (full_year n < 2050) × (full_year n % 100 ≡ n)
    → IsMoment m → (c ≡ utc_text m) × IsUtcYear m.year × IsMoment m
utc-of c r m n e f y g h =
    let back : n ≡ m.year % 100 = sym (ap (λ (k : ℕ). k % 100) y ∙ g.2) in (
      e ∙ ap (λ (t : List ℕ). two_digits n ++ t) f
          ∙ ap (λ (k : ℕ). two_digits k ++ after_year m) back,
      (omega (arith, y, g.0), omega (arith, y, g.1)),
      h,
    )

generalized-from : (c r s : List ℕ) (m : Moment) (a b : ℕ) → c ≡ two_digits a ++ r
    → r ≡ two_digits b ++ s → s ≡ after_year m → m.year ≡ a * 100 + b → a < 100 → b < 100
    → IsMoment m → (c ≡ generalized_text m) × IsMoment m
generalized-from c r s m a b e f g y k l h =
    let high : a ≡ m.year / 100 = omega (arith, y, l) in
    let low : b ≡ m.year % 100 = omega (arith, y, l) in (
      e ∙ ap (λ (t : List ℕ). two_digits a ++ t) (f ∙ ap (λ (t : List ℕ). two_digits b ++ t) g)
          ∙ ap (λ (k : ℕ). two_digits k ++ (two_digits b ++ after_year m)) high
          ∙ ap (λ (k : ℕ). two_digits (m.year / 100) ++ (two_digits k ++ after_year m)) low,
      h,
    )

pub exact-utc : IsExactContents utc_of (λ c m. (c ≡ utc_text m) × IsUtcYear m.year × IsMoment m)
unfolding utc_of
exact-utc = record {
  sound = λ c m bytes e.
      let y = bind_some (pair_at c) _ m e in
      let p = pair-sound c y.0.0 y.0.1 y.1 in
      let b = after-sound (full_year y.0.0) y.0.1 m y.2 in
      let f = year-full y.0.0 p.1 in
      utc-of c y.0.1 m y.0.0 p.0 b.0 b.1 f b.2;
  complete = λ c m h.
      rw h.0 (rw (pair-read (m.year % 100) (after_year m) (omega arith))
      (rw (full-again m.year h.1.0 h.1.1) (after-read m h.2)));
}

pub generalized-sound : (c : List ℕ) (m : Moment) → generalized_of c ≡ Some m
    → (c ≡ generalized_text m) × IsMoment m
unfolding generalized_of
generalized-sound c m e =
    let y = bind_some (pair_at c) _ m e in
    let z = bind_some (pair_at y.0.1) _ m y.2 in
    let p = pair-sound c y.0.0 y.0.1 y.1 in
    let q = pair-sound y.0.1 z.0.0 z.0.1 z.1 in
    let b = after-sound (y.0.0 * 100 + z.0.0) z.0.1 m z.2 in
    generalized-from c y.0.1 z.0.1 m y.0.0 z.0.0 p.0 q.0 b.0 b.1 p.1 q.1 b.2

pub exact-generalized : IsExactContents generalized_of
    (λ c m. (c ≡ generalized_text m) × IsMoment m)
unfolding generalized_of
exact-generalized = record {
  sound = λ c m bytes e. generalized-sound c m e;
  complete = λ c m h.
      let at : m.year / 100 * 100 + m.year % 100 ≡ m.year = omega arith in
      rw h.0 (rw (pair-read (m.year / 100) (two_digits (m.year % 100) ++ after_year m)
      (omega (arith, h.1.year)))
      (rw (pair-read (m.year % 100) (after_year m) (omega arith))
      (rw at (after-read m h.1))));
}
