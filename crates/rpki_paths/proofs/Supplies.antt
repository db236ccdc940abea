-- A supply goes from path to path.
use Rattle.std.proofs.Common.{◌≡◌, ◌≢◌, ℕ, zero, suc, ◌+◌, Bool, true, false, ◌&&◌, List}
use Rattle.std.proofs.Common.{[], ◌∷◌, get_or, set, Some, IsTrue, refl, sym, ap, ◌∙◌, subst}
use Rattle.std.proofs.Common.{inl, inr, arith, length-set}
use Rattle.std.specs.Prelude.{slice_get, ◌↔◌}
use Rattle.std.proofs.lemmas.Bool.{and_parts, true≢false, cases_eq}
use Rattle.std.proofs.lemmas.List.{set-get_or}
use Rattle.std.proofs.lemmas.Option.{same_Some}
use Rattle.rpki_paths.specs.declared.walker.Path.{Path}
use Rattle.rpki_paths.specs.Cert.{Cert}
use Rattle.rpki_paths.specs.Anchor.{Supply}
use Rattle.rpki_paths.specs.Supplied.{IsSupplied, AreSupplied, AreAnchoredTo}

pub set-same : {A : Type 0} (xs : List A) (i : ℕ) (p q : A) → slice_get xs i ≡ Some p
    → slice_get (set xs i q) i ≡ Some q
set-same [] i p q e = absurd cc
set-same (x ∷ xs) zero p q e = refl
set-same (x ∷ xs) (suc i) p q e = set-same xs i p q e

pub set-other : {A : Type 0} (xs : List A) (i k : ℕ) (q : A) → k ≢ i
    → slice_get (set xs i q) k ≡ slice_get xs k
set-other [] i k q differ = refl
set-other (x ∷ xs) zero zero q differ = absurd (differ refl)
set-other (x ∷ xs) zero (suc k) q differ = refl
set-other (x ∷ xs) (suc i) zero q differ = refl
set-other (x ∷ xs) (suc i) (suc k) q differ = set-other xs i k q (λ e. differ (ap suc e))

pub both : (a b : Bool) → IsTrue a → IsTrue b → IsTrue (a && b)
both true b h k = k
both false b h k = absurd (true≢false (sym h))

module _ {C : Type 0} (cert : C → Cert) (s : Supply) (old mid : List (Path C)) (i : ℕ)
    (p q : Path C) (w : AreSupplied cert s old mid i) (at_i : slice_get mid i ≡ Some p) where
  pub as-before : slice_get old i ≡ Some p
  as-before = sym (w.above i (omega arith)) ∙ at_i

  pub supplied-more : IsSupplied cert s p q → AreSupplied cert s old (set mid i q) (i + 1)
  supplied-more h = record {
    below = λ k x y lt e f. elim (cases_eq k i) [
      | inl same ↦
          (let here : x ≡ p = same_Some x p (sym e ∙ ap (slice_get old) same ∙ as-before) in
          let there : y ≡ q = same_Some y q
          (sym f ∙ ap (slice_get (set mid i q)) same ∙ set-same mid i p q at_i) in
          subst (λ z. IsSupplied cert s z y) (sym here)
          (subst (λ z. IsSupplied cert s p z) (sym there) h))
      | inr differ ↦ w.below k x y (omega (arith, lt, differ)) e
          (sym (set-other mid i k q differ) ∙ f)
    ];
    above = λ k le.
        (let differ : ¬ (k ≡ i) = λ e. absurd (omega (arith, le, e)) in
        set-other mid i k q differ ∙ w.above k (omega (arith, le)));
    as_many = length-set mid i q ∙ w.as_many;
  }

  pub anchored-more : (done : Bool) → IsTrue done ↔ AreAnchoredTo mid i
      → IsTrue (done && q.anchored) ↔ AreAnchoredTo (set mid i q) (i + 1)
  anchored-more done h = (
    λ t k x lt e. (let parts = and_parts done q.anchored t in
        elim (cases_eq k i) [
          | inl same ↦
              (let there : q ≡ x = same_Some q x
              (sym (ap (slice_get (set mid i q)) same ∙ set-same mid i p q at_i) ∙ e) in
              subst (λ (z : Path C). IsTrue z.anchored) there parts.1)
          | inr differ ↦ h.0 parts.0 k x (omega (arith, lt, differ))
              (sym (set-other mid i k q differ) ∙ e)
        ]),
    λ all. both done q.anchored
        (h.1 (λ k x lt e.
        (let differ : ¬ (k ≡ i) = λ f. absurd (omega (arith, lt, f)) in
        all k x (omega (arith, lt)) (set-other mid i k q differ ∙ e))))
        (all i q (omega arith) (set-same mid i p q at_i)),
  )

-- a path that is written back as it was
pub supplied-stays : {C : Type 0} (cert : C → Cert) (s : Supply) (old mid : List (Path C)) (i : ℕ)
    (p q : Path C) → AreSupplied cert s old mid i → q ≡ get_or mid i p
    → AreSupplied cert s old (set mid i q) i
supplied-stays cert s old mid i p q w e =
    subst (λ l. AreSupplied cert s old l i)
    (sym (ap (set mid i) e ∙ set-get_or mid i p)) w
