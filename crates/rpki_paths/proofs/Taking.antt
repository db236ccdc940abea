-- Taking the first that fits: the search over the places of an identifier, and what is then left.
use Rattle.std.proofs.Common.{◌≡◌, ℕ, zero, suc, ◌+◌, ◌<◌, Bool, true, false, List, []}
use Rattle.std.proofs.Common.{◌∷◌, length, map, set, Some, IsTrue, IsFalse, refl}
use Rattle.std.proofs.Common.{sym, ap, ◌∙◌, subst, inl, inr, arith}
use Rattle.std.specs.Prelude.{slice_get, option_map}
use Rattle.std.proofs.lemmas.Bool.{true≢false, cases_eq, cases_lt}
use Rattle.std.proofs.lemmas.Option.{slice_get-map, slice_get_within, same_Some}
use Rattle.rpki_paths.specs.Cert.{IsIn}
use Rattle.rpki_paths.specs.Index.{IsNamed}
use Rattle.rpki_paths.specs.Taking.{left_of, IsFirst, first, later, FitsNone, IsTakenAt}
use Rattle.rpki_paths.proofs.Indexing.{IsScan, scan-from-named}

-- ---- what is left

left-has : {A : Type 0} (flags : List Bool) (ys : List A) (j : ℕ) (y : A) → slice_get ys j ≡ Some y
    → slice_get flags j ≡ Some false → IsIn y (left_of flags ys)
left-has [] ys j y e f = absurd cc
left-has (t ∷ flags) [] j y e f = absurd cc
left-has (true ∷ flags) (z ∷ ys) zero y e f = absurd cc
left-has (false ∷ flags) (z ∷ ys) zero y e f = inl (sym (same_Some z y e))
left-has (true ∷ flags) (z ∷ ys) (suc j) y e f = left-has flags ys j y e f
left-has (false ∷ flags) (z ∷ ys) (suc j) y e f = inr (left-has flags ys j y e f)

-- what holds of no item that is not taken holds of none that is left
none-left : {A : Type 0} (P : A → Type 0) (flags : List Bool) (ys : List A)
    → ((j : ℕ) (y : A) → slice_get ys j ≡ Some y → slice_get flags j ≡ Some false → ¬ (P y))
    → FitsNone P (left_of flags ys)
none-left P [] ys h y i = absurd i
none-left P (t ∷ flags) [] h y i = absurd i
none-left P (true ∷ flags) (z ∷ ys) h y i =
    none-left P flags ys (λ j w e f. h (suc j) w e f) y i
none-left P (false ∷ flags) (z ∷ ys) h y (inl e) =
    subst (λ w. ¬ (P w)) (sym e) (h 0 z refl refl)
none-left P (false ∷ flags) (z ∷ ys) h y (inr i) =
    none-left P flags ys (λ j w e f. h (suc j) w e f) y i

first-left : {A : Type 0} (P : A → Type 0) (flags : List Bool) (ys : List A) (i : ℕ) (y : A)
    → slice_get ys i ≡ Some y → slice_get flags i ≡ Some false → P y
    → ((j : ℕ) (z : A) → j < i → slice_get ys j ≡ Some z → slice_get flags j ≡ Some false → ¬ (P z))
    → IsFirst P y (left_of (set flags i true) ys) (left_of flags ys)
first-left P [] ys i y e f p h = absurd cc
first-left P (t ∷ flags) [] i y e f p h = absurd cc
first-left P (true ∷ flags) (z ∷ ys) zero y e f p h = absurd cc
first-left P (false ∷ flags) (z ∷ ys) zero y e f p h =
    let same : y ≡ z = sym (same_Some z y e) in
    subst (λ w. IsFirst P y (left_of flags ys) (w ∷ left_of flags ys)) same (first p)
first-left P (true ∷ flags) (z ∷ ys) (suc i) y e f p h =
    first-left P flags ys i y e f p (λ j w lt. h (suc j) w (omega (arith, lt)))
first-left P (false ∷ flags) (z ∷ ys) (suc i) y e f p h =
    later (h 0 z (omega arith) refl refl)
    (first-left P flags ys i y e f p (λ j w lt. h (suc j) w (omega (arith, lt))))

-- ---- the search

module _ {Y : Type 0} (held : Y → List ℕ) (id : List ℕ) (verdict : Y → Bool) (ys : List Y)
    (flags : List Bool) where
  -- whatever is left and has the identifier has the verdict
  abbrev pub AllOk : Type 0
  AllOk = (y : Y) → IsIn y (left_of flags ys) → id ≡ held y → IsTrue (verdict y)

  abbrev pub IsFit : Y → Type 0
  IsFit y = (id ≡ held y) × IsTrue (verdict y)

  -- the places that are left to search have all that may fit
  pub record IsTaking (left : List ℕ) (before after : ℕ) : Type 0 where
    pub from : ℕ
    pub rest : IsScan (map held ys) id from (length (map held ys)) left
    pub passed : (j : ℕ) (y : Y) → j < from → slice_get ys j ≡ Some y
        → slice_get flags j ≡ Some false → id ≡ held y → IsFalse (verdict y)
    pub cost : AllOk → after ≡ before

  pub taking-none : (left : List ℕ) (before : ℕ) → IsNamed (map held ys) id left
      → IsTaking left before before
  taking-none left before h = record {
    from = 0;
    rest = scan-from-named (map held ys) id left h;
    passed = λ j y lt e f n. absurd (omega (arith, lt));
    cost = λ ok. refl;
  }

  pub taking-at : (left right : List ℕ) (before after : ℕ) → IsTaking left before after
      → left ≡ right → IsTaking right before after
  taking-at left right before after w e = subst (λ l. IsTaking l before after) e w

  -- the first that is left, in range
  pub taking-within : (i : ℕ) (rest : List ℕ) (before after : ℕ)
      → IsTaking (i ∷ rest) before after → i < length (map held ys)
  taking-within i rest before after w = w.rest.1

  held-at : (j : ℕ) (y : Y) → slice_get ys j ≡ Some y → slice_get (map held ys) j ≡ Some (held y)
  held-at j y e = slice_get-map held ys j ∙ ap (option_map held) e

  named-at : (i : ℕ) (y : Y) (rest : List ℕ) (before after : ℕ)
      → IsTaking (i ∷ rest) before after → slice_get ys i ≡ Some y → id ≡ held y
  named-at i y rest before after w e = same_Some id (held y) (sym w.rest.2 ∙ held-at i y e)

  -- those before the first that is left
  earlier : (i : ℕ) (rest : List ℕ) (before after : ℕ) → IsTaking (i ∷ rest) before after
      → (j : ℕ) (y : Y) → j < i → slice_get ys j ≡ Some y → slice_get flags j ≡ Some false
      → id ≡ held y → IsFalse (verdict y)
  earlier i rest before after w j y lt e f n = elim (cases_lt j w.from) [
    | inl l ↦ w.passed j y l e f n
    | inr l ↦ absurd (w.rest.3 j l lt (held-at j y e ∙ ap Some (sym n)))
  ]

  pub taking-more : (i : ℕ) (y : Y) (b : Bool) (rest : List ℕ) (before after next : ℕ)
      → IsTaking (i ∷ rest) before after → slice_get ys i ≡ Some y → slice_get flags i ≡ Some b
      → (IsFalse b → IsFalse (verdict y)) → (IsTrue b → next ≡ after) → IsTaking rest before next
  taking-more i y b rest before after next w at_i flag refused taken = record {
    from = i + 1;
    rest = w.rest.4;
    passed = λ j z lt e f n. elim (cases_eq j i) [
      | inl s ↦ (let same : z ≡ y = same_Some z y (sym e ∙ ap (slice_get ys) s ∙ at_i) in
          ap verdict same
          ∙ refused (same_Some b false (sym flag ∙ ap (slice_get flags) (sym s) ∙ f)))
      | inr differ ↦ earlier i rest before after w j z (omega (arith, lt, differ)) e f n
    ];
    cost = λ ok. go b flag refused taken ok;
  }
    where
      go : (c : Bool) → slice_get flags i ≡ Some c → (IsFalse c → IsFalse (verdict y))
          → (IsTrue c → next ≡ after) → AllOk → next ≡ before
      go true m r t ok = t refl ∙ w.cost ok
      go false m r t ok =
          absurd (true≢false (sym (ok y (left-has flags ys i y at_i m)
          (named-at i y rest before after w at_i)) ∙ r refl))

  pub taking-found : (i : ℕ) (y : Y) (rest : List ℕ) (before after : ℕ)
      → IsTaking (i ∷ rest) before after → slice_get ys i ≡ Some y → slice_get flags i ≡ Some false
      → IsTrue (verdict y) → IsTakenAt IsFit ys flags (set flags i true) i
  taking-found i y rest before after w at_i flag verified = (
    y,
    at_i,
    flag,
    refl,
    first-left IsFit flags ys i y at_i flag (named-at i y rest before after w at_i, verified)
        (λ j z lt e f p. true≢false (sym p.1 ∙ earlier i rest before after w j z lt e f p.0)),
  )

  pub taking-done : (before after : ℕ) → IsTaking [] before after
      → FitsNone IsFit (left_of flags ys)
  taking-done before after w = none-left IsFit flags ys (λ j y e f p.
      elim (cases_lt j w.from) [
        | inl l ↦ true≢false (sym p.1 ∙ w.passed j y l e f p.0)
        | inr l ↦ (let at_j = held-at j y e ∙ ap Some (sym p.0) in
            w.rest j l (slice_get_within (map held ys) j id at_j) at_j)
      ])
