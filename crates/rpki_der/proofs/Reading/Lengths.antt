-- Lengths are read exactly.
use Rattle.std.proofs.Common.{◌≡◌, ◌≢◌, ℕ, ◌+◌, ◌-◌, ◌≤◌, Bool, true, false, cond, ltb, List, []}
use Rattle.std.proofs.Common.{◌∷◌, ◌++◌, length, take, drop, Option, Some, None, refl, sym, ap, ◌∙◌}
use Rattle.std.proofs.Common.{arith, inl, inr}
use Rattle.std.specs.Prelude.{◌⊎◌}
use Rattle.std.proofs.lemmas.Bool.{ltb-false, le-ltb, lt-ltb, ltb-true}
use Rattle.std.proofs.lemmas.List.{take_at, drop_at, take-append-drop, length-append, length-take}
use Rattle.rpki_der.specs.declared.mode.Mode.{Mode}
use Rattle.rpki_der.specs.declared.mode.Mode.TheVariants.{Der, Ber}
use Rattle.rpki_der.specs.Read.Parse.{◌>>=◌, shortest, long_at, length_at, contents_at}
use Rattle.rpki_der.specs.Numbers.{number, least}
use Rattle.rpki_der.specs.Grammar.{IsShortest, IsLength, Front}

pub bind_some : {A B : Type 0} (r : Option A) (f : A → Option B) (y : B) → (r >>= f) ≡ Some y
    → (x : A) × (r ≡ Some x) × (f x ≡ Some y)
bind_some (Some x) f y e = (x, refl, e)
bind_some None f y e = absurd cc

pub guard_some : {A : Type 0} (b : Bool) (x : Option A) (y : A) → cond b None x ≡ Some y
    → (b ≡ false) × (x ≡ Some y)
guard_some true x y e = absurd cc
guard_some false x y e = (refl, e)

pub chosen : {A : Type 0} (b : Bool) (x y z : A) → cond b x y ≡ z
    → ((b ≡ true) × (x ≡ z)) ⊎ ((b ≡ false) × (y ≡ z))
chosen true x y z e = inl (refl, e)
chosen false x y z e = inr (refl, e)

pub some_is : {A : Type 0} (x y : A) → (let s : Option A = Some x in s) ≡ Some y → x ≡ y
some_is x y e = cc

-- ---- lengths

shortest-sound : (mode : Mode) (low n : ℕ) (after : List ℕ) (m : ℕ) (rest : List ℕ)
    → shortest mode low n after ≡ Some (m, rest) → IsShortest mode low n × (n ≡ m) × (after ≡ rest)
shortest-sound Der low n after m rest e =
    let g = guard_some (ltb n low) (Some (n, after)) (m, rest) e in
    let p : (n, after) ≡ (m, rest) = some_is _ _ g.1 in
    (ltb-false _ _ g.0, ap (λ (p : ℕ × List ℕ). p.0) p, ap (λ (p : ℕ × List ℕ). p.1) p)
shortest-sound Ber low n after m rest e =
    let p : (n, after) ≡ (m, rest) = some_is _ _ e in
    (tt, ap (λ (p : ℕ × List ℕ). p.0) p, ap (λ (p : ℕ × List ℕ). p.1) p)

shortest-complete : (mode : Mode) (low n : ℕ) (rest : List ℕ) → IsShortest mode low n
    → shortest mode low n rest ≡ Some (n, rest)
shortest-complete Der low n rest h = rw (le-ltb _ _ h) refl
shortest-complete Ber low n rest h = refl

long-sound : (mode : Mode) (k : ℕ) (b : List ℕ) (n : ℕ) (rest : List ℕ)
    → long_at k mode b ≡ Some (n, rest)
    → (digits : List ℕ) × (b ≡ digits ++ rest) × (length digits ≡ k) × (n ≡ number 0 digits)
    × IsShortest mode (least (length digits)) n
unfolding long_at
long-sound mode k b n rest e =
    let g = guard_some (ltb (length b) k) (shortest mode (least k) (number 0 (take k b)) (drop k b))
    (n, rest) e in
    let s = shortest-sound mode (least k) (number 0 (take k b)) (drop k b) n rest g.1 in
    let le : k ≤ length b = ltb-false _ _ g.0 in
    let len : length (take k b) ≡ k = omega (arith, length-take k b) in (
      take k b,
      sym (take-append-drop k b)
          ∙ ap (λ (r : List ℕ). take k b ++ r) s.2,
      len,
      sym s.1,
      rw len (rw (← s.1) s.0),
    )

long-complete : (mode : Mode) (digits rest : List ℕ)
    → IsShortest mode (least (length digits)) (number 0 digits)
    → long_at (length digits) mode (digits ++ rest) ≡ Some (number 0 digits, rest)
unfolding long_at
long-complete mode digits rest h =
    let long : ltb (length (digits ++ rest)) (length digits) ≡ false =
    le-ltb _ _ (omega (arith, length-append digits rest)) in
    rw (long, take_at digits rest (length digits) refl, drop_at digits rest (length digits) refl)
    (shortest-complete mode _ _ rest h)

pub length-sound : (mode : Mode) (b : List ℕ) (n : ℕ) (rest : List ℕ)
    → length_at mode b ≡ Some (n, rest) → Front (IsLength mode) b n rest
unfolding length_at
length-sound mode [] n rest e = absurd cc
length-sound mode (a ∷ b) n rest e =
    elim (chosen (ltb a 128) (Some (a, b)) _ _ e) [
      | inl h ↦
          let p : (let q : ℕ × List ℕ = (a, b) in q) ≡ (n, rest) = some_is _ _ h.1 in
          let a-is : a ≡ n = ap (λ (p : ℕ × List ℕ). p.0) p in
          let b-is : b ≡ rest = ap (λ (p : ℕ × List ℕ). p.1) p in (
            a ∷ [],
            ap (λ (r : List ℕ). a ∷ r) b-is,
            inl (ap (λ (m : ℕ). m ∷ []) a-is, omega (arith, ltb-true a 128 h.0)),
          )
      | inr h ↦
          let g = guard_some (ltb a 129) _ (n, rest) h.1 in
          let g2 = guard_some (ltb 132 a) _ (n, rest) g.1 in
          let low : 129 ≤ a = ltb-false _ _ g.0 in
          let high : a ≤ 132 = ltb-false _ _ g2.0 in
          let l = long-sound mode (a - 128) b n rest g2.1 in
          let first : a ≡ 128 + length l.0 = omega (arith, l.2) in (
            a ∷ l.0,
            ap (λ (r : List ℕ). a ∷ r) l.1,
            inr (
              l.0,
              ap (λ (m : ℕ). m ∷ l.0) first,
              omega (arith, l.2),
              omega (arith, l.2),
              l.3,
              l.4,
            ),
          )
    ]

pub length-complete : (mode : Mode) (l : List ℕ) (n : ℕ) (rest : List ℕ) → IsLength mode l n
    → length_at mode (l ++ rest) ≡ Some (n, rest)
unfolding length_at
length-complete mode l n rest (inl h) =
    let lt : ltb n 128 ≡ true = lt-ltb _ _ h.1 in
    rw h.0 (rw lt refl)
length-complete mode l n rest (inr h) =
    let k = length h.0 in
    let not_short : ltb (128 + k) 128 ≡ false = le-ltb _ _ (omega arith) in
    let low : ltb (128 + k) 129 ≡ false = le-ltb _ _ (omega (arith, h.2)) in
    let high : ltb 132 (128 + k) ≡ false = le-ltb _ _ (omega (arith, h.3)) in
    let back : 128 + k - 128 ≡ k = omega arith in
    let s : IsShortest mode (least k) (number 0 h.0) = rw (← h.4) h.5 in
    rw h.1 (rw (not_short, low, high, back) (rw h.4 (long-complete mode h.0 rest s)))

-- ---- contents of a definite length

pub contents-sound : (mode : Mode) (b c r : List ℕ) → contents_at mode b ≡ Some (c, r)
    → (len : List ℕ) × (b ≡ len ++ (c ++ r)) × IsLength mode len (length c)
unfolding contents_at
contents-sound mode b c r e =
    let n = bind_some (length_at mode b) _ (c, r) e in
    let len = n.0.0 in
    let after = n.0.1 in
    let g = guard_some (ltb (length after) len) (Some (take len after, drop len after))
    (c, r) n.2 in
    let p : (let q : List ℕ × List ℕ = (take len after, drop len after) in
    q) ≡ (c, r) = some_is _ _ g.1 in
    let c-is : take len after ≡ c = ap (λ (q : List ℕ × List ℕ). q.0) p in
    let r-is : drop len after ≡ r = ap (λ (q : List ℕ × List ℕ). q.1) p in
    let f = length-sound mode b len after n.1 in
    let le : len ≤ length after = ltb-false _ _ g.0 in
    let took : length (take len after) ≡ len = omega (arith, length-take len after) in
    let l-is : length c ≡ len = ap length (sym c-is) ∙ took in
    let parts : after ≡ c ++ r = sym (take-append-drop len after) ∙ rw (c-is, r-is) refl in
    (f.0, f.1 ∙ ap (λ (x : List ℕ). f.0 ++ x) parts, rw l-is f.2)

pub contents-complete : (mode : Mode) (l c r : List ℕ) → IsLength mode l (length c)
    → contents_at mode (l ++ (c ++ r)) ≡ Some (c, r)
unfolding contents_at
contents-complete mode l c r h =
    let long : ltb (length (c ++ r)) (length c) ≡ false =
    le-ltb _ _ (omega (arith, length-append c r)) in
    rw (length-complete mode l (length c) (c ++ r) h)
    (rw (long, take_at c r (length c) refl, drop_at c r (length c) refl) refl)

-- the first octet of a length is not 128
pub length-first : (mode : Mode) (l : List ℕ) (n : ℕ) → IsLength mode l n
    → (a : ℕ) × (others : List ℕ) × (l ≡ a ∷ others) × (a ≢ 128)
length-first mode l n (inl h) = (n, [], h.0, λ e. absurd (omega (arith, h.1, e)))
length-first mode l n (inr h) = (128 + length h.0, h.0, h.1, λ e. absurd (omega (arith, h.2, e)))

-- a length in the shortest form is one in any
pub length-any : (mode : Mode) (l : List ℕ) (n : ℕ) → IsLength mode l n → IsLength Ber l n
length-any mode l n (inl h) = inl h
length-any mode l n (inr h) = inr (h.0, h.1, h.2, h.3, h.4, tt)
