-- INTEGERs are read exactly.
use Rattle.std.proofs.Common.{◌≡◌, ℕ, ◌+◌, ◌*◌, ◌^◌, ◌<◌, ◌≤◌, Bool, true, false, cond, ltb, List}
use Rattle.std.proofs.Common.{[], ◌∷◌, length, Option, Some, None, refl, sym, ap, subst, ◌∙◌, arith}
use Rattle.std.proofs.Common.{inl, inr}
use Rattle.std.proofs.lemmas.Bool.{ltb-false, le-ltb, lt-ltb, ltb-true, eqb-true, eq-eqb, eqb-false}
use Rattle.std.specs.Prelude.{nat_eq}
use Rattle.rpki_der.specs.Tags.{INTEGER, SEQUENCE}
use Rattle.rpki_der.specs.declared.mode.Mode.{Mode}
use Rattle.rpki_der.specs.Numbers.{number}
use Rattle.rpki_der.specs.Read.Parse.{digits_of, number_of, unsigned_of, primitive, this, in_value}
use Rattle.rpki_der.specs.Read.Parse.{many, optional}
use Rattle.rpki_der.specs.Grammar.{Items, IsInteger, IsBytes, Within}
use Rattle.rpki_der.specs.Read.Exact.{IsExact, anything}
use Rattle.rpki_der.proofs.Reading.Lengths.{bind_some, guard_some, chosen, some_is}
use Rattle.rpki_der.proofs.Reading.Many.{Shortens-optional}
use Rattle.rpki_der.proofs.Reading.Lists.{exact-many, begins-within}
use Rattle.rpki_der.proofs.Reading.Exact.{exact-in, IsExactContents, exact-primitive}

-- numbers of at most this number of octets are those below limit
pub record Holds (most limit : ℕ) : Type 0 where
  pub below : (digits : List ℕ) → IsBytes digits → length digits ≤ most → number 0 digits < limit
  pub enough : (d : ℕ) (ds : List ℕ) → 1 ≤ d → number 0 (d ∷ ds) < limit → length (d ∷ ds) ≤ most

pub number-grows : (ds : List ℕ) (n : ℕ) → n ≤ number n ds
number-grows [] n = omega arith
number-grows (d ∷ ds) n = let h = number-grows ds (n * 256 + d) in omega (arith, h)

below1 : (ds : List ℕ) → IsBytes ds → length ds ≤ 1 → number 0 ds < 256
below1 [] h l = omega arith
below1 (a ∷ []) h l = omega (arith, h.0)
below1 (a ∷ b ∷ ds) h l = absurd (omega arith)

enough1 : (d : ℕ) (ds : List ℕ) → 1 ≤ d → number 0 (d ∷ ds) < 256 → length (d ∷ ds) ≤ 1
enough1 d [] h l = omega arith
enough1 d (a ∷ ds) h l = let g = number-grows ds ((0 * 256 + d) * 256 + a) in
    absurd (omega (arith, g, l))

pub holds1 : Holds 1 256
holds1 = record { below = below1; enough = enough1 }

below4 : (ds : List ℕ) → IsBytes ds → length ds ≤ 4 → number 0 ds < 2 ^ 32
below4 [] h l = omega arith
below4 (a ∷ []) h l = omega (arith, h.0)
below4 (a ∷ b ∷ []) h l = omega (arith, h.0, h.1.0)
below4 (a ∷ b ∷ c ∷ []) h l = omega (arith, h.0, h.1.0, h.1.1.0)
below4 (a ∷ b ∷ c ∷ d ∷ []) h l = omega (arith, h.0, h.1.0, h.1.1.0, h.1.1.1.0)
below4 (a ∷ b ∷ c ∷ d ∷ e ∷ ds) h l = absurd (omega arith)

enough4 : (d : ℕ) (ds : List ℕ) → 1 ≤ d → number 0 (d ∷ ds) < 2 ^ 32 → length (d ∷ ds) ≤ 4
enough4 d [] h l = omega arith
enough4 d (a ∷ []) h l = omega arith
enough4 d (a ∷ b ∷ []) h l = omega arith
enough4 d (a ∷ b ∷ c ∷ []) h l = omega arith
enough4 d (a ∷ b ∷ c ∷ e ∷ ds) h l = let g =
    number-grows ds (((((0 * 256 + d) * 256 + a) * 256 + b) * 256 + c) * 256 + e) in
    absurd (omega (arith, g, l))

pub holds4 : Holds 4 (2 ^ 32)
holds4 = record { below = below4; enough = enough4 }

-- what digits_of gives
digits-sound : (c ds : List ℕ) → IsBytes c → digits_of c ≡ Some ds
    → IsInteger c (number 0 ds) × IsBytes ds
unfolding digits_of
digits-sound [] ds h e = absurd cc
digits-sound (a ∷ []) ds h e =
    elim (chosen (ltb a 128) (Some (a ∷ [])) None (Some ds) e) [
      | inl g ↦ let p : (let q : List ℕ = a ∷ [] in q) ≡ ds = some_is _ _ g.1 in
          subst (λ (q : List ℕ). IsInteger (a ∷ []) (number 0 q) × IsBytes q) p
          ((ltb-true _ _ g.0, omega arith), h)
      | inr g ↦ absurd (let no : (let n : Option (List ℕ) = None in n) ≡ Some ds = g.1 in cc)
    ]
digits-sound (a ∷ b ∷ rest) ds h e =
    elim (chosen (ltb a 128) _ None (Some ds) e) [
      | inl g ↦ elim (chosen (nat_eq a 0) _ _ (Some ds) g.1) [
        | inl z ↦ let k = guard_some (ltb b 128) (Some (b ∷ rest)) ds z.1 in
            let p : (let q : List ℕ = b ∷ rest in q) ≡ ds = some_is _ _ k.1 in
            let zero-is : a ≡ 0 = eqb-true _ _ z.0 in
            let at : 0 * 256 + b ≡ (0 * 256 + a) * 256 + b = omega arith in
            subst (λ (q : List ℕ). IsInteger (a ∷ b ∷ rest) (number 0 q) × IsBytes q) p (
              (ltb-true _ _ g.0, (λ _. ltb-false _ _ k.0), ap (λ (n : ℕ). number n rest) at),
              h.1,
            )
        | inr z ↦ let p : (let q : List ℕ = a ∷ b ∷ rest in q) ≡ ds = some_is _ _ z.1 in
            subst (λ (q : List ℕ). IsInteger (a ∷ b ∷ rest) (number 0 q) × IsBytes q) p
            ((ltb-true _ _ g.0, (λ is. absurd (eqb-false _ _ z.0 is)), refl), h)
      ]
      | inr g ↦ absurd (let no : (let n : Option (List ℕ) = None in n) ≡ Some ds = g.1 in cc)
    ]

itself : (b : Bool) → cond b true false ≡ b
itself true = refl
itself false = refl

-- digits that begin with one that is not 0, or a single one
abbrev pub IsTrimmed : List ℕ → Type 0
IsTrimmed [] = ⊥
IsTrimmed (d ∷ []) = Unit {0}
IsTrimmed (d ∷ e ∷ ds) = 1 ≤ d

trimmed : (d : ℕ) (ds : List ℕ) → 1 ≤ d → IsTrimmed (d ∷ ds)
trimmed d [] h = tt
trimmed d (e ∷ ds) h = h

digits-complete : (c : List ℕ) (n : ℕ) → IsInteger c n
    → (ds : List ℕ) × (digits_of c ≡ Some ds) × (n ≡ number 0 ds) × IsTrimmed ds
unfolding digits_of
digits-complete [] n h = absurd h
digits-complete (a ∷ []) n h =
    let lt : ltb a 128 ≡ true = lt-ltb _ _ h.0 in
    (a ∷ [], rw lt refl, h.1 ∙ omega arith, tt)
digits-complete (a ∷ b ∷ rest) n h =
    let lt : ltb a 128 ≡ true = lt-ltb _ _ h.0 in
    elim (chosen (nat_eq a 0) true false (nat_eq a 0) (itself (nat_eq a 0))) [
      | inl z ↦
          let zero-is : a ≡ 0 = eqb-true _ _ z.0 in
          let le : 128 ≤ b = h.1 zero-is in
          let ge : ltb b 128 ≡ false = le-ltb _ _ le in
          let at : (0 * 256 + a) * 256 + b ≡ 0 * 256 + b = omega arith in (
            b ∷ rest,
            rw (lt, z.0, ge) refl,
            h.2
                ∙ ap (λ (m : ℕ). number m rest) at,
            trimmed b rest (omega arith),
          )
      | inr z ↦
          let not_zero : a ≡ 0 → ⊥ = eqb-false _ _ z.0 in
          (a ∷ b ∷ rest, rw (lt, z.0) refl, h.2, omega (arith, not_zero))
    ]

at_most : (most limit : ℕ) → Holds most limit → 1 ≤ most → (ds : List ℕ) → IsTrimmed ds
    → number 0 ds < limit → length ds ≤ most
at_most most limit holds some [] h l = absurd h
at_most most limit holds some (d ∷ []) h l = omega arith
at_most most limit holds some (d ∷ e ∷ ds) h l = holds.enough d (e ∷ ds) h l

pub exact-unsigned : (most limit : ℕ) → Holds most limit → 1 ≤ most
    → IsExactContents (unsigned_of most) (λ c n. IsInteger c n × (n < limit))
unfolding unsigned_of number_of
exact-unsigned most limit holds some = record {
  sound = λ c n bytes e.
      let d = bind_some (digits_of c) (number_of most) n e in
      let g = guard_some (ltb most (length d.0)) (Some (number 0 d.0)) n d.2 in
      let n-is : number 0 d.0 ≡ n = some_is _ _ g.1 in
      let s = digits-sound c d.0 bytes d.1 in
      subst (λ (m : ℕ). IsInteger c m × (m < limit)) n-is
      (s.0, holds.below d.0 s.1 (ltb-false _ _ g.0));
  complete = λ c n h.
      let d = digits-complete c n h.0 in
      let lt : number 0 d.0 < limit = rw (← d.2) h.1 in
      let le : ltb most (length d.0) ≡ false =
      le-ltb _ _ (at_most most limit holds some d.0 d.3 lt) in
      rw (d.1, le) (ap (λ (m : ℕ). (let o : Option ℕ = Some m in o)) (sym d.2));
}

-- a u8, a u32
pub exact-u32 : (mode : Mode)
    → IsExact anything (primitive INTEGER (unsigned_of 4) mode)
    (λ o n. Within mode INTEGER (λ c. IsInteger c n × (n < 2 ^ 32)) o)
exact-u32 mode = exact-primitive INTEGER (unsigned_of 4) mode (λ c n. IsInteger c n × (n < 2 ^ 32))
    (exact-unsigned 4 (2 ^ 32) holds4 (omega arith))

-- exactly this number
pub exact-this : (n : ℕ) → n < 256 → IsExactContents (this n) (λ c _. IsInteger c n)
exact-this n lt = record {
  sound = λ c x bytes e.
      let m = bind_some (unsigned_of 1 c) _ x e in
      let g = chosen (nat_eq m.0 n) (Some tt) None (Some x) m.2 in
      let u = (exact-unsigned 1 256 holds1 (omega arith)).sound c m.0 bytes m.1 in
      elim g [
        | inl h ↦ let is : m.0 ≡ n = eqb-true _ _ h.0 in subst (λ (k : ℕ). IsInteger c k) is u.0
        | inr h ↦ absurd (let no : (let o : Option (Unit {0}) = None in o) ≡ Some x = h.1 in cc)
      ];
  complete = λ c x h.
      let u : unsigned_of 1 c ≡ Some n =
      (exact-unsigned 1 256 holds1 (omega arith)).complete c n (h, lt) in
      let same : nat_eq n n ≡ true = eq-eqb n n refl in
      rw (u, same) refl;
}

-- a SEQUENCE of u32s
pub exact-list : (mode : Mode)
    → IsExact anything (in_value SEQUENCE
    (many (optional INTEGER (primitive INTEGER (unsigned_of 4)))) mode)
    (λ o ns. Within mode SEQUENCE
    (λ c. Items (λ d n. Within mode INTEGER (λ e. IsInteger e n × (n < 2 ^ 32)) d) c ns) o)
exact-list mode =
    let G : List ℕ → ℕ → Type 0 =
    λ d n. Within mode INTEGER (λ e. IsInteger e n × (n < 2 ^ 32)) d in
    exact-in SEQUENCE (many (optional INTEGER (primitive INTEGER (unsigned_of 4)))) mode (Items G)
    (exact-many INTEGER (primitive INTEGER (unsigned_of 4)) mode G (exact-u32 mode)
    (Shortens-optional INTEGER (unsigned_of 4) mode)
    (begins-within INTEGER mode (λ e n. IsInteger e n × (n < 2 ^ 32))))
