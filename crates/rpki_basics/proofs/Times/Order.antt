-- The number of a moment grows with time.
use Rattle.std.proofs.Common.{◌≡◌, ℕ, ◌+◌, ◌*◌, ◌≤◌, ◌<◌, ◌↔◌, arith, inl, inr}
use Rattle.std.specs.Prelude.{◌⊎◌, pos}
use Rattle.std.proofs.lemmas.Bool.{cases_lt}
use Rattle.std.proofs.lemmas.Nat.{mul-add-lt}
use Rattle.std.proofs.Math.Nat.{mul_comm}
use Rattle.jiff.specs.Words.{days_in_month}
use Rattle.rpki_basics.specs.Moment.{Moment, IsMoment, IsEarlier, stamp}

-- ---- numbers of two digits

less : (k x y r s : ℕ) → r < k → x < y → x * k + r < y * k + s
less k x y r s h l =
    let a : x * k + r < k * y = mul-add-lt x k r y l h in
    let b : k * y ≡ y * k = mul_comm k y in
    omega (arith, a, b)

digit-up : (k x y r s : ℕ) → r < k → s < k
    → (x * k + r < y * k + s) ↔ ((x < y) ⊎ ((x ≡ y) × (r < s)))
digit-up k x y r s h l = (to, from)
  where
    same : x ≤ y → y ≤ x → x ≡ y
    same a b = omega arith

    last : x ≡ y → x * k + r < y * k + s → r < s
    last e lt = let lt2 : y * k + r < y * k + s = rw e at lt in omega (arith, lt2)

    to : x * k + r < y * k + s → (x < y) ⊎ ((x ≡ y) × (r < s))
    to lt = elim (cases_lt x y) [
      | inl a ↦ inl a
      | inr a ↦ elim (cases_lt y x) [
        | inl b ↦ absurd (let c : y * k + s < x * k + r = less k y x s r l b in
            omega (arith, lt, c))
        | inr b ↦ inr (same b a, last (same b a) lt)
      ]
    ]

    from : (x < y) ⊎ ((x ≡ y) × (r < s)) → x * k + r < y * k + s
    from (inl a) = less k x y r s h a
    from (inr e) = rw e.0 (let d : r < s = e.1 in omega arith)

digit-one : (k x y r s : ℕ) → r < k → s < k → x * k + r ≡ y * k + s → (x ≡ y) × (r ≡ s)
digit-one k x y r s h l e = elim (cases_lt x y) [
  | inl a ↦ absurd (let c : x * k + r < y * k + s = less k x y r s h a in omega (arith, e, c))
  | inr a ↦ elim (cases_lt y x) [
    | inl b ↦ absurd (let c : y * k + s < x * k + r = less k y x s r l b in omega (arith, e, c))
    | inr b ↦
        let same : x ≡ y = omega arith in
        let f : y * k + r ≡ y * k + s = rw same at e in
        (same, omega (arith, f))
  ]
]

-- ---- the parts of a moment

day-small : (y m d : ℕ) → d ≤ days_in_month (pos y) m → d < 32
day-small y m d h = grind arith

abbrev minutes : Moment → ℕ
minutes m = m.minute * 60 + m.second

abbrev hours : Moment → ℕ
hours m = m.hour * 3600 + minutes m

abbrev days : Moment → ℕ
days m = m.day * 86400 + hours m

abbrev months : Moment → ℕ
months m = m.month * 2764800 + days m

record Small (m : Moment) : Type 0 where
  second : m.second < 60
  minutes : minutes m < 3600
  hours : hours m < 86400
  days : days m < 2764800
  months : months m < 35942400

small : (m : Moment) → IsMoment m → Small m
small m h =
    let d : m.day < 32 = day-small m.year m.month m.day h.day in
    let a : minutes m < 3600 = omega (arith, h.minute, h.second) in
    let b : hours m < 86400 = omega (arith, h.hour, a) in
    let c : days m < 2764800 = omega (arith, d, b) in
    record {
      second = h.second;
      minutes = a;
      hours = b;
      days = c;
      months = omega (arith, h.month, c);
    }

stamp-is : (m : Moment) → stamp m ≡ m.year * 35942400 + months m
stamp-is m = omega arith

-- ---- the order

chain : {A B C : Type 0} → A ↔ B → B ↔ C → A ↔ C
chain f g = (λ a. g.0 (f.0 a), λ c. f.1 (g.1 c))

under : {A B P Q : Type 0} → P ↔ Q → (A ⊎ (B × P)) ↔ (A ⊎ (B × Q))
under {A} {B} {P} {Q} f = (to, from)
  where
    to : A ⊎ (B × P) → A ⊎ (B × Q)
    to (inl a) = inl a
    to (inr b) = inr (b.0, f.0 b.1)

    from : A ⊎ (B × Q) → A ⊎ (B × P)
    from (inl a) = inl a
    from (inr b) = inr (b.0, f.1 b.1)

pub stamp-order : (a b : Moment) → IsMoment a → IsMoment b → (stamp a < stamp b) ↔ IsEarlier a b
stamp-order a b h k =
    let s = small a h in
    let t = small b k in
    let whole : (stamp a < stamp b)
    ↔ (a.year * 35942400 + months a < b.year * 35942400 + months b) =
    (λ l. omega (arith, l), λ l. omega (arith, l)) in
    chain whole (chain (digit-up 35942400 a.year b.year (months a) (months b) s.months t.months)
    (under (chain (digit-up 2764800 a.month b.month (days a) (days b) s.days t.days)
    (under (chain (digit-up 86400 a.day b.day (hours a) (hours b) s.hours t.hours)
    (under (chain (digit-up 3600 a.hour b.hour (minutes a) (minutes b) s.minutes t.minutes)
    (under (digit-up 60 a.minute b.minute a.second b.second s.second t.second)))))))))

pub stamp-one : (a b : Moment) → IsMoment a → IsMoment b → stamp a ≡ stamp b → a ≡ b
stamp-one a b h k e =
    let s = small a h in
    let t = small b k in
    let f : a.year * 35942400 + months a ≡ b.year * 35942400 + months b = omega (arith, e) in
    let y = digit-one 35942400 a.year b.year (months a) (months b) s.months t.months f in
    let o = digit-one 2764800 a.month b.month (days a) (days b) s.days t.days y.1 in
    let d = digit-one 86400 a.day b.day (hours a) (hours b) s.hours t.hours o.1 in
    let u = digit-one 3600 a.hour b.hour (minutes a) (minutes b) s.minutes t.minutes d.1 in
    let n = digit-one 60 a.minute b.minute a.second b.second s.second t.second u.1 in
    λ i. record {
      year = y.0 i;
      month = o.0 i;
      day = d.0 i;
      hour = u.0 i;
      minute = n.0 i;
      second = n.1 i;
    }
