-- As many as there are of one form or of several, up to the end, are read exactly.
use Rattle.std.proofs.Common.{◌≡◌, ℕ, zero, suc, ◌<◌, Bool, true, false, cond, List, [], ◌∷◌, ◌++◌}
use Rattle.std.proofs.Common.{length, Option, Some, None, ◌⊎◌, inl, inr, refl, sym, ap, subst, ◌∙◌}
use Rattle.std.proofs.Common.{append_assoc, arith, eq-eqb}
use Rattle.rpki_der.specs.declared.mode.Mode.{Mode}
use Rattle.rpki_der.specs.Read.Parse.{Parser, with_front, go_on, up_to, many, optional, some_of}
use Rattle.rpki_der.specs.Read.Parse.{is_next, or_else, either}
use Rattle.rpki_der.specs.Grammar.{Front, IsBytes, Items, Within}
use Rattle.rpki_der.specs.Read.Exact.{IsExact, anything}
use Rattle.rpki_der.proofs.Reading.Scan.{shape}
use Rattle.rpki_der.proofs.Reading.Lengths.{bind_some, some_is}
use Rattle.rpki_der.proofs.Reading.Exact.{the_end, IsBytes-right}
use Rattle.rpki_der.proofs.Reading.Many.{Shortens, many-end, many-more, optional-some}

-- each begins with this tag
pub record Begins {X : Type 0} (tag : ℕ) (G : List ℕ → X → Type 0) : Type 0 where
  pub at : (o : List ℕ) (x : X) → G o x → (t : List ℕ) × (o ≡ tag ∷ t)

pub begins-within : {X : Type 0} (tag : ℕ) (mode : Mode) (M : List ℕ → X → Type 0)
    → Begins tag (λ o x. Within mode tag (λ c. M c x) o)
begins-within tag mode M = record {
  at = λ o x h. let s = shape mode o tag h.0 h.1 in
      (s.0 ++ (h.0 ++ s.1), s.2);
}

-- p reads one in G, if one is next
pub record ReadsOne {X : Type 0} (p : List ℕ → Option (Option X × List ℕ)) (G : List ℕ → X
    → Type 0) : Type 0 where
  pub shorter : Shortens p
  pub sound : (b : List ℕ) (x : X) (r : List ℕ) → IsBytes b → p b ≡ Some (Some x, r) → Front G b x r
  pub leaves : (b r : List ℕ) → p b ≡ Some (None, r) → b ≡ r
  pub complete : (o : List ℕ) (x : X) (r : List ℕ) → G o x → p (o ++ r) ≡ Some (Some x, r)
  pub none : p [] ≡ Some (None, [])

pub front-some : {X : Type 0} (x : X) (m : Option (List X × List ℕ)) (xs : List X) (r : List ℕ)
    → with_front (x ∷ []) m ≡ Some (xs, r) → (ys : List X) × (m ≡ Some (ys, r)) × (x ∷ ys ≡ xs)
front-some x None xs r e = absurd cc
front-some {X} x (Some (ys, s)) xs r e =
    let q : (let t : List X × List ℕ = (x ∷ ys, s) in t) ≡ (xs, r) = some_is _ _ e in (
      ys,
      ap (λ (t : List ℕ). (let o : Option (List X × List ℕ) = Some (ys, t) in o))
          (ap (λ (t : List X × List ℕ). t.1) q),
      ap (λ (t : List X × List ℕ). t.0) q,
    )

module _ {X : Type 0} (p : Parser (Option X)) (mode : Mode) (G : List ℕ → X → Type 0)
    (e : ReadsOne (p mode) G) where
  step-sound : (n : ℕ) (b : List ℕ) (xs : List X) (r : List ℕ) (o : Option X × List ℕ)
      → p mode b ≡ Some o → IsBytes b
      → ((s : List ℕ) (ys : List X) → length s < length b → IsBytes s
      → up_to n p mode s ≡ Some (ys, r) → Front (Items G) s ys r)
      → go_on o.0 o.1 (up_to n p mode o.1) ≡ Some (xs, r) → Front (Items G) b xs r
  step-sound n b xs r (None, s) h bytes ih g =
      let q : (let t : List X × List ℕ = ([], s) in t) ≡ (xs, r) = some_is _ _ g in
      let same : b ≡ s = e.leaves b s h in (
        [],
        same ∙ ap (λ (t : List X × List ℕ). t.1) q,
        subst (λ (t : List X × List ℕ). Items G [] t.0) q refl,
      )
  step-sound n b xs r (Some x, s) h bytes ih g =
      let f = front-some x (up_to n p mode s) xs r g in
      let first = e.sound b x s bytes h in
      let after : IsBytes s = IsBytes-right first.0 s (subst IsBytes first.1 bytes) in
      let others = ih s f.0 (e.shorter.at b x s h) after f.1 in (
        first.0 ++ others.0,
        first.1 ∙ ap (λ (t : List ℕ). first.0 ++ t) others.1
            ∙ sym (append_assoc first.0 others.0 r),
        subst (λ (t : List X). Items G (first.0 ++ others.0) t) f.2
            (first.0, others.0, refl, first.2, others.2),
      )

  up_to-sound : (n : ℕ) (b : List ℕ) (xs : List X) (r : List ℕ) → length b < n → IsBytes b
      → up_to n p mode b ≡ Some (xs, r) → Front (Items G) b xs r
  unfolding up_to
  up_to-sound zero b xs r lt bytes h = absurd (omega arith)
  up_to-sound (suc n) b xs r lt bytes h =
      let o = bind_some (p mode b) _ (xs, r) h in
      step-sound n b xs r o.0 o.1 bytes (λ s ys l bs g. up_to-sound n s ys r (omega arith) bs g) o.2

  many-complete : (o : List ℕ) (xs : List X) → Items G o xs → many p mode (o ++ []) ≡ Some (xs, [])
  many-complete o [] h = rw h (many-end p mode [] [] e.none)
  many-complete o (x ∷ xs) h =
      let a = h.0 in
      let b = h.1 in
      let read : p mode (a ++ (b ++ [])) ≡ Some (Some x, b ++ []) = e.complete a x (b ++ []) h.3 in
      let more = many-more p mode e.shorter (a ++ (b ++ [])) x (b ++ []) read in
      rw h.2 (rw (append_assoc a b [], more, many-complete b xs h.4) refl)

  pub exact-each : IsExact the_end (many p mode) (Items G)
  unfolding many
  exact-each = record {
    sound = λ b xs r bytes h. up_to-sound (suc (length b)) b xs r (omega arith) bytes h;
    complete = λ o xs r er h. rw er (many-complete o xs h);
  }

-- ---- one form

none-cases : {X : Type 0} (t : Bool) (o : Option (X × List ℕ)) (b r : List ℕ)
    → cond t (some_of o) (Some (None, b)) ≡ Some (None, r) → b ≡ r
none-cases {X} true None b r e = absurd cc
none-cases {X} true (Some (y, s)) b r e =
    let q : (let t : Option X × List ℕ = (Some y, s) in t) ≡ (None, r) = some_is _ _ e in
    absurd (let no_value : Some y ≡ None = ap (λ (t : Option X × List ℕ). t.0) q in cc)
none-cases {X} false o b r e =
    let q : (let t : Option X × List ℕ = (None, b) in t) ≡ (None, r) = some_is _ _ e in
    ap (λ (t : Option X × List ℕ). t.1) q

-- p reads with this tag
pub reads-next : {X : Type 0} (tag : ℕ) (p : Parser X) (mode : Mode) (G : List ℕ → X → Type 0)
    → IsExact anything (p mode) G → Begins tag G → Shortens (optional tag p mode)
    → ReadsOne (optional tag p mode) G
reads-next tag p mode G e begins short = record {
  shorter = short;
  sound = λ b x r bytes h. e.sound b x r bytes (optional-some tag p mode b x r h);
  leaves = λ b r h. none-cases (is_next tag b) (p mode b) b r h;
  complete = λ o x r h.
      let t = begins.at o x h in
      let next : is_next tag (o ++ r) ≡ true = rw t.1 (eq-eqb tag tag refl) in
      rw (next, e.complete o x r tt h) refl;
  none = refl;
}

-- the same, where each that p reads has an octet at least
pub reads-optional : {X : Type 0} (tag : ℕ) (p : Parser X) (mode : Mode) (G : List ℕ → X → Type 0)
    → IsExact anything (p mode) G → Begins tag G
    → ((b : List ℕ) (x : X) (r : List ℕ) → p mode b ≡ Some (x, r) → length r < length b)
    → ReadsOne (optional tag p mode) G
reads-optional tag p mode G e begins short =
    reads-next tag p mode G e begins
    (record { at = λ b x r h. short b x r (optional-some tag p mode b x r h) })

-- values with one tag, up to the end
pub exact-many : {X : Type 0} (tag : ℕ) (p : Parser X) (mode : Mode) (G : List ℕ → X → Type 0)
    → IsExact anything (p mode) G → Shortens (optional tag p mode) → Begins tag G
    → IsExact the_end (many (optional tag p) mode) (Items G)
exact-many tag p mode G e short begins =
    exact-each (optional tag p) mode G (reads-next tag p mode G e begins short)

-- ---- one of two forms

-- where p finds none, nothing in H begins as p's do
pub record Passes {X : Type 0} (p : List ℕ → Option (Option X × List ℕ)) (H : List ℕ → X
    → Type 0) : Type 0 where
  pub at : (o : List ℕ) (x : X) (r : List ℕ) → H o x → p (o ++ r) ≡ Some (None, o ++ r)

or_else-some : {X : Type 0} (o : Option X × List ℕ) (other : Option (Option X × List ℕ)) (x : X)
    (r : List ℕ) → or_else o.0 o.1 other ≡ Some (Some x, r)
    → (o ≡ (Some x, r)) ⊎ ((o.0 ≡ None) × (other ≡ Some (Some x, r)))
or_else-some {X} (Some y, s) other x r e = inl (some_is _ _ e)
or_else-some (None, s) other x r e = inr (refl, e)

or_else-none : {X : Type 0} (o : Option X × List ℕ) (other : Option (Option X × List ℕ))
    (r : List ℕ) → or_else o.0 o.1 other ≡ Some (None, r) → (o.0 ≡ None) × (other ≡ Some (None, r))
or_else-none {X} (Some y, s) other r e =
    let q : (let t : Option X × List ℕ = (Some y, s) in t) ≡ (None, r) = some_is _ _ e in
    absurd (let no_value : Some y ≡ None = ap (λ (t : Option X × List ℕ). t.0) q in cc)
or_else-none (None, s) other r e = (refl, e)

module _ {X : Type 0} (p q : Parser (Option X)) (mode : Mode) (G H : List ℕ → X → Type 0)
    (one : ReadsOne (p mode) G) (two : ReadsOne (q mode) H) (passes : Passes (p mode) H) where
  nothing : (b : List ℕ) (o : Option X × List ℕ) → p mode b ≡ Some o → o.0 ≡ None → b ≡ o.1
  nothing b (None, s) h e = one.leaves b s h
  nothing b (Some x, s) h e = absurd cc

  cases : (b : List ℕ) (x : X) (r : List ℕ) → either p q mode b ≡ Some (Some x, r)
      → (p mode b ≡ Some (Some x, r)) ⊎ (q mode b ≡ Some (Some x, r))
  cases b x r h =
      let o = bind_some (p mode b) _ (Some x, r) h in
      elim (or_else-some o.0 (q mode o.0.1) x r o.2) [
        | inl e ↦ inl (o.1 ∙ ap
            (λ (t : Option X × List ℕ). (let s : Option (Option X × List ℕ) = Some t in s)) e)
        | inr e ↦ inr (rw (nothing b o.0 o.1 e.0) e.1)
      ]

  pub reads-either : ReadsOne (either p q mode) (λ o x. G o x ⊎ H o x)
  reads-either = record {
    shorter = record {
      at =
          λ b x r h. elim (cases b x r h)
          [ inl k ↦ one.shorter.at b x r k | inr k ↦ two.shorter.at b x r k ];
    };
    sound = λ b x r bytes h. elim (cases b x r h) [
      | inl k ↦ let f = one.sound b x r bytes k in (f.0, f.1, inl f.2)
      | inr k ↦ let f = two.sound b x r bytes k in (f.0, f.1, inr f.2)
    ];
    leaves = λ b r h.
        let o = bind_some (p mode b) _ (None, r) h in
        let e = or_else-none o.0 (q mode o.0.1) r o.2 in
        let k = nothing b o.0 o.1 e.0 in
        k ∙ two.leaves o.0.1 r e.1;
    complete = λ o x r h. elim h [
      | inl k ↦ rw (one.complete o x r k) refl
      | inr k ↦ rw (passes.at o x r k) (two.complete o x r k)
    ];
    none = rw one.none two.none;
  }
