-- Names that are among others, and items that pass a test.
use Rattle.std.proofs.Common.{◌≡◌, ◌∙◌, ◌+◌, ◌&&◌, ◌||◌, ℕ, Bool, true, false, not, cond, List, []}
use Rattle.std.proofs.Common.{◌∷◌, map, Option, Some, None, is_none, String, string_bytes, Bor}
use Rattle.std.proofs.Common.{nat_eq, length, ap, refl, sym}
use Rattle.std.proofs.Math.Dec.{ltb}
use Rattle.std.proofs.lemmas.Bool.{and_parts}
use Rattle.std.proofs.lemmas.Iterator.Adapters.{position_from-zero}
use Rattle.std.proofs.lemmas.Map.Views.{Contains-from_any}
use Rattle.std.specs.Cmp.Lexicographic.{pointwise, same_text}
use Rattle.std.specs.List.{Contains, list_all, list_any, position_from, position_or_len}
use Rattle.std.specs.declared.alloc.Global.{Global}
use Rattle.serde_json.specs.View.{members_view}
use Rattle.serde_json.specs.declared.value.Value.{Value}
use Rattle.rpki_payloads.specs.Slurm.Said.{AreNamed}

-- ---- names

-- a test of what borrows show
shown : (p : List ℕ → Bool) (names : List (Bor (List ℕ)))
    → list_any p (map (λ n. n.now) names) ≡ list_any (λ (n : Bor (List ℕ)). p n.now) names
shown p [] = refl
shown p (n ∷ ns) = ap (λ (b : Bool). p n.now || b) (shown p ns)

-- a name that is equal to one of these is one of them
among : (names : List (Bor (List ℕ))) (name : List ℕ)
    → list_any (λ (n : Bor (List ℕ)). pointwise nat_eq n.now name) names ≡ true
    → Contains (map (λ n. n.now) names) name
among names name h =
    Contains-from_any {eq = λ q n. pointwise nat_eq n q} (λ x y e. sym (same_text y x (sym e))) name
    (map (λ n. n.now) names) (shown (λ n. pointwise nat_eq n name) names ∙ h)

-- members whose names are each one of these
pub named : (names : List (Bor (List ℕ))) (es : List (String Global × Value))
    → list_all (λ (k : String Global).
    list_any (λ (n : Bor (List ℕ)). pointwise nat_eq n.now (string_bytes k)) names)
    (map (λ e. e.0) es) ≡ true
    → AreNamed (map (λ n. n.now) names) (members_view es)
named names [] h = tt
named names (e ∷ es) h =
    let both = and_parts
    (list_any (λ (n : Bor (List ℕ)). pointwise nat_eq n.now (string_bytes e.0)) names)
    (list_all (λ (k : String Global).
    list_any (λ (n : Bor (List ℕ)). pointwise nat_eq n.now (string_bytes k)) names)
    (map (λ e. e.0) es)) h in
    (among names (string_bytes e.0) both.0, named names es both.1)

-- ---- items

module _ {X : Type 0} (test : X → Bool) where
  here : (b : Bool) (i : ℕ) (rest : Option ℕ) (all : Bool) → is_none rest ≡ all
      → is_none (cond (not b) (Some i) rest) ≡ (b && all)
  here true i rest all h = h
  here false i rest all h = refl

  from : (i : ℕ) (xs : List X)
      → is_none (position_from (λ x. not (test x)) i xs) ≡ list_all test xs
  from i [] = refl
  from i (x ∷ xs) =
      here (test x) i (position_from (λ y. not (test y)) (i + 1) xs) (list_all test xs)
      (from (i + 1) xs)

  -- there is no place of one that fails, if all pass
  pub none-fails : (xs : List X) (r : Option ℕ)
      → r ≡ cond (ltb (position_or_len (λ x. not (test x)) xs) (length xs))
      (Some (position_or_len (λ x. not (test x)) xs)) None
      → is_none r ≡ list_all test xs
  none-fails xs r h =
      ap is_none (h ∙ position_from-zero (λ x. not (test x)) xs) ∙ from 0 xs
