-- Looking at the elements of a list, one after the other, for one of a kind.
use Rattle.std.proofs.Common.{◌≡◌, ◌⊎◌, inl, inr, ℕ, zero, suc, ◌<◌, List, [], ◌∷◌, length}
use Rattle.std.proofs.Common.{true, false, refl, sym, subst, ◌∙◌, get_or, arith}
use Rattle.std.specs.Prelude.{◌↔◌, Contains, IsTrue}
use Rattle.std.specs.List.{Any}
use Rattle.std.specs.Str.{bytes_eq}
use Rattle.std.proofs.lemmas.Slice.Eq.{bytes_eq-Decides}

-- Whether P holds of one of all is left to those that are left.
pub record LeftTo {X : Type 0} (P : X → Type 0) (all rest : List X) : Type 0 where
  pub kept : Any P rest → Any P all
  pub left : Any P all → Any P rest

module _ {X : Type 0} (P : X → Type 0) where
  any-first : (x : X) (xs : List X) → P x → Any P (x ∷ xs)
  any-first x xs p = (0, x, omega arith, refl, p)

  any-later : (x : X) (xs : List X) → Any P xs → Any P (x ∷ xs)
  any-later x xs a = (suc a.0, a.1, omega (arith, a.2), a.3, a.4)

  any-cases : (x : X) (xs : List X) → Any P (x ∷ xs) → P x ⊎ Any P xs
  any-cases x xs a = of a.0 a.2 a.3
    where
      of : (k : ℕ) → k < length (x ∷ xs) → get_or (x ∷ xs) k a.1 ≡ a.1 → P x ⊎ Any P xs
      of zero l e = inl (subst P (sym e) a.4)
      of (suc k) l e = inr (k, a.1, omega (arith, l), e, a.4)

  pub left-all : (all : List X) → LeftTo P all all
  left-all all = record { kept = λ a. a; left = λ a. a }

  pub left-more : (all rest now : List X) (x : X) → LeftTo P all rest → rest ≡ x ∷ now
      → (P x → ⊥) → LeftTo P all now
  left-more all rest now x s e n = record {
    kept = λ a. s.kept (subst (Any P) (sym e) (any-later x now a));
    left = λ a. of (any-cases x now (subst (Any P) e (s.left a)));
  }
    where
      of : P x ⊎ Any P now → Any P now
      of (inl p) = absurd (n p)
      of (inr a) = a

  pub found : (all rest now : List X) (x : X) → LeftTo P all rest → rest ≡ x ∷ now → P x
      → Any P all
  found all rest now x s e p = s.kept (subst (Any P) (sym e) (any-first x now p))

  pub none-left : (all rest : List X) → LeftTo P all rest → rest ≡ [] → Any P all → ⊥
  none-left all rest s e a = of (subst (Any P) e (s.left a))
    where
      of : Any P [] → ⊥
      of b = omega (arith, b.2)

-- a list contains what is one of it
pub contains-from-any : {X : Type 0} (xs : List X) (x : X) → Any (λ y. y ≡ x) xs → Contains xs x
contains-from-any xs x a =
    (a.0, a.2, subst (λ (y : _). get_or xs a.0 y ≡ y) a.4 a.3)

pub any-from-contains : {X : Type 0} (xs : List X) (x : X) → Contains xs x → Any (λ y. y ≡ x) xs
any-from-contains xs x c = (c.0, x, c.1, c.2, refl)

-- what is answered
pub say-yes : {Q : Type 0} → Q → IsTrue true ↔ Q
say-yes q = (λ _. q, λ _. refl)

pub say-no : {Q : Type 0} → (Q → ⊥) → IsTrue false ↔ Q
say-no n = (λ e. absurd (let never : false ≡ true = e in cc), λ q. absurd (n q))

-- octets that were compared
pub told-same : (a b : List ℕ) → true ≡ bytes_eq a b → a ≡ b
told-same a b e = (bytes_eq-Decides a b).0 (sym e)

pub told-apart : (a b : List ℕ) → false ≡ bytes_eq a b → a ≡ b → ⊥
told-apart a b e same = let never : false ≡ true = e ∙ (bytes_eq-Decides a b).1 same in cc
