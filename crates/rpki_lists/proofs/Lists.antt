-- Lists of entries.
use Rattle.std.proofs.Common.{◌≡◌, ℕ, Bool, true, false, List, [], ◌∷◌, length}
use Rattle.std.proofs.Common.{Option, Some, None, refl, sym, ◌∙◌, arith}
use Rattle.std.specs.Prelude.{IsTrue, IsSome, ◌↔◌}
use Rattle.std.specs.Iterator.{YieldsFirstBy, MakesProgress, at_most}
use Rattle.rpki_der.specs.declared.mode.Mode.TheVariants.{Der}
use Rattle.rpki_der.specs.Read.Parse.{Parser, ◌>>=◌, all_of}
use Rattle.rpki_der.proofs.Reading.Skips.{Takes, all-more, all-none, all-end}
use Rattle.rpki_lists.specs.Slice.{FindsFront, IsFound}
use Rattle.rpki_lists.specs.Entries.{or_empty, entries_of, HoldEntries, Shrinks}

takes : {X : Type 0} (p : Parser X) → Shrinks p → Takes (p Der)
takes p s = record { at = s }

-- ---- one entry

module _ {X : Type 0} (p : Parser X) (s : Shrinks p) where
  pub all-first : (b : List ℕ) (x : X) (r : List ℕ) → p Der b ≡ Some (x, r)
      → all_of p Der b ≡ (all_of p Der r >>= λ xs. Some (x ∷ xs))
  all-first [] x r e = absurd (let lt = s [] x r e in omega (arith, lt))
  all-first (a ∷ b) x r e = all-more p Der (takes p s) a b x r e

  pub all-refused : (b : List ℕ) → (length b ≡ 0 → ⊥) → p Der b ≡ None → all_of p Der b ≡ None
  all-refused [] n e = absurd (n refl)
  all-refused (a ∷ b) n e = all-none p Der (takes p s) a b e

  pub all-ended : (b : List ℕ) → length b ≡ 0 → all_of p Der b ≡ Some []
  all-ended [] e = all-end p Der (takes p s)
  all-ended (a ∷ b) e = absurd (omega (arith, e))

  pub none-left : (b : List ℕ) → length b ≡ 0 → entries_of p b ≡ []
  none-left b e = rw (all-ended b e) refl

  bound-some : (x : X) (o : Option (List X)) (xs : List X) → (o >>= λ ys. Some (x ∷ ys)) ≡ Some xs
      → (ys : List X) × (o ≡ Some ys)
  bound-some x None xs e = absurd cc
  bound-some x (Some ys) xs e = (ys, refl)

  still-entries : (b : List ℕ) (x : X) (r : List ℕ) → p Der b ≡ Some (x, r) → HoldEntries p b
      → HoldEntries p r
  still-entries b x r e h = bound-some x (all_of p Der r) h.0 (sym (all-first b x r e) ∙ h.1)

  first-of : (x : X) (o : Option (List X)) (ys : List X) → o ≡ Some ys
      → or_empty (o >>= λ zs. Some (x ∷ zs)) ≡ x ∷ or_empty o
  first-of x o ys e = rw e refl

  gives-first : (b : List ℕ) (x : X) (r : List ℕ) → p Der b ≡ Some (x, r) → HoldEntries p b
      → entries_of p b ≡ x ∷ entries_of p r
  gives-first b x r e h =
      let t = still-entries b x r e h in
      rw (all-first b x r e) (first-of x (all_of p Der r) t.0 t.1)

-- octets that are entries begin with one, unless there are none
pub front-entry : {X : Type 0} (p : Parser X) → Shrinks p → (b : List ℕ) → HoldEntries p b
    → (length b ≡ 0 → ⊥) → IsFound p b
front-entry {X} p s b are some = of (p Der b) refl
  where
    of : (o : Option (X × List ℕ)) → p Der b ≡ o → IsSome o
    of (Some x) e = refl
    of None e = absurd (let none : all_of p Der b ≡ None = all-refused p s b some e in
        let never : (let o : Option (List X) = None in o) ≡ Some are.0 = sym none ∙ are.1 in cc)

-- what a step of an iterator that is not at its end gives: the first of the entries that are left
pub record Stepped {T X : Type 0} (view : T → X) (p : Parser X) (old : List ℕ) (first : T)
    (new : List ℕ) : Type 0 where
  pub are : HoldEntries p new
  pub gives : YieldsFirstBy view (λ (l : List X). l) (entries_of p old) (Some first)
      (entries_of p new)

pub stepped : {T X : Type 0} (view : T → X) (p : Parser X) → Shrinks p → (old : List ℕ)
    (first : T) (new : List ℕ) → HoldEntries p old → FindsFront view p old (Some first) new
    → Stepped view p old first new
stepped view p s old first new are h = record {
  are = still-entries p s old (view first) new h are;
  gives = gives-first p s old (view first) new h are;
}

pub made-progress : {T X : Type 0} (view : T → X) (old new : List X) (result : Option T)
    → YieldsFirstBy view (λ (l : List X). l) old result new
    → MakesProgress {S = List X} {A = T} (λ _. Unit {0}) (λ l. at_most (length l)) old result new
made-progress view old new None g = record { on = λ f. tt; keeps = tt; rests = λ f. f }
made-progress view old new (Some t) g =
    record { on = λ f. (tt, f, rw g (omega arith)); keeps = tt; rests = λ f. tt }

-- ---- tests

pub said-no : {P : Type 0} (r : Bool) → (IsTrue r ↔ P) → r ≡ false → P → ⊥
said-no r h e p = absurd (let never : false ≡ true = sym e ∙ h.1 p in cc)

pub said-yes : {P : Type 0} (r : Bool) → (IsTrue r ↔ P) → r ≡ true → P
said-yes r h e = h.0 e
