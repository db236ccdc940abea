use Rattle.std.proofs.Common.{◌≡◌, ℕ, Bool, true, false, List, [], ◌∷◌, Option, Some, None, refl}
use Rattle.std.proofs.Common.{sym, ap, ◌∙◌}
use Rattle.std.specs.Prelude.{◌↔◌}
use Rattle.std.proofs.lemmas.Bool.{false_from_ne_true}
use Rattle.rpki_der.specs.declared.mode.Mode.{Mode}
use Rattle.rpki_der.specs.Read.Parse.{any_at, some_of, skip_at, skip_opt_at, at_end}
use Rattle.rpki_der.proofs.Reading.Lengths.{some_is}
use Rattle.rpki_der.proofs.Reading.Skips.{skip-none}
use Rattle.rpki_der.proofs.laws.values_up_to_the_end.Goals as goal

ends : (mode : Mode) (o r : List ℕ) (e : Bool)
    → (at_end mode o ≡ Some (e, r)) ↔ ((r ≡ o) × ((e ≡ true) ↔ (o ≡ [])))
unfolding at_end
ends mode [] r e = (
  λ h.
      let q : (let t : Bool × List ℕ = (true, []) in t) ≡ (e, r) = some_is _ _ h in (
        sym (ap (λ (t : Bool × List ℕ). t.1) q),
        (λ _. refl, λ _. sym (ap (λ (t : Bool × List ℕ). t.0) q)),
      ),
  λ h. rw (h.0, h.1.1 refl) refl,
)
ends mode (b ∷ bytes) r e = (
  λ h.
      let q : (let t : Bool × List ℕ = (false, b ∷ bytes) in t) ≡ (e, r) = some_is _ _ h in (
        sym (ap (λ (t : Bool × List ℕ). t.1) q),
        (
          λ t. absurd (let no : false ≡ true = ap (λ (t : Bool × List ℕ). t.0) q ∙ t in
              cc),
          λ n. absurd cc,
        ),
      ),
  λ h. rw (h.0, false_from_ne_true e (λ t. let no = h.1.0 t in absurd cc)) refl,
)

any-nothing : (mode : Mode) → any_at mode [] ≡ None
unfolding any_at
any-nothing mode = refl

some-none : {X : Type 0} (o : Option (X × List ℕ)) (r : List ℕ) → some_of o ≡ Some (None, r) → ⊥
some-none None r h = cc
some-none {X} (Some x) r h =
    let q : (let t : Option X × List ℕ = (Some x.0, x.1) in t) ≡ (None, r) = some_is _ _ h in
    let no : Some x.0 ≡ None = ap (λ (t : Option X × List ℕ). t.0) q in
    cc

some-one : (o : Option (Unit {0} × List ℕ)) (r : List ℕ)
    → (some_of o ≡ Some (Some tt, r)) ↔ (o ≡ Some (tt, r))
some-one None r = (λ h. absurd cc, λ h. absurd cc)
some-one (Some x) r = (
  λ h.
      let q : (let t : Option (Unit {0}) × List ℕ = (Some x.0, x.1) in
      t) ≡ (Some tt, r) = some_is _ _ h in
      ap (λ (t : List ℕ). (let s : Option (Unit {0} × List ℕ) = Some (tt, t) in s))
      (ap (λ (t : Option (Unit {0}) × List ℕ). t.1) q),
  λ h.
      let q : x ≡ (tt, r) = some_is _ _ h in
      ap (λ (t : List ℕ). (let s : Option (Option (Unit {0}) × List ℕ) = Some (Some tt, t) in s))
      (ap (λ (t : Unit {0} × List ℕ). t.1) q),
)

none : (mode : Mode) (o r : List ℕ) → (skip_opt_at mode o ≡ Some (None, r)) ↔ ((o ≡ []) × (r ≡ []))
unfolding skip_opt_at
none mode [] r = (
  λ h.
      let q : (let t : Option (Unit {0}) × List ℕ = (None, []) in t) ≡ (None, r) = some_is _ _ h in
      (refl, sym (ap (λ (t : Option (Unit {0}) × List ℕ). t.1) q)),
  λ h. rw h.1 refl,
)
none mode (b ∷ bytes) r =
    (λ h. absurd (some-none (skip_at 32 mode (b ∷ bytes)) r h), λ h. absurd (let no = h.0 in cc))

one : (mode : Mode) (o r : List ℕ)
    → (skip_opt_at mode o ≡ Some (Some tt, r)) ↔ (skip_at 32 mode o ≡ Some (tt, r))
unfolding skip_opt_at
one mode [] r = (
  λ h.
      let q : (let t : Option (Unit {0}) × List ℕ = (None, []) in
      t) ≡ (Some tt, r) = some_is _ _ h in
      absurd (let no : (let t : Option (Unit {0}) = None in
      t) ≡ Some tt = ap (λ (t : Option (Unit {0}) × List ℕ). t.0) q in cc),
  λ h. absurd (let no : (let s : Option (Unit {0} × List ℕ) = None in
      s) ≡ Some (tt, r) = sym (skip-none 32 mode [] (any-nothing mode)) ∙ h in cc),
)
one mode (b ∷ bytes) r = some-one (skip_at 32 mode (b ∷ bytes)) r

pub returns-clause-end : goal.returns-clause-end
returns-clause-end c = λ mode octets rest e. ends mode octets rest e

pub returns-clause-none : goal.returns-clause-none
returns-clause-none c = none

pub returns-clause-one : goal.returns-clause-one
returns-clause-one c = one
