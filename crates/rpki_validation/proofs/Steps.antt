-- Chains of certificates and lists, one by one; what lists revoke; and what tests deny.
use Rattle.std.proofs.Common.{◌≡◌, ℕ, zero, suc, ◌+◌, ◌<◌, List, [], ◌∷◌, ◌++◌, length, drop}
use Rattle.std.proofs.Common.{Bool, true, false, IsTrue, ◌↔◌, get_or, take, Result, Ok, arith}
use Rattle.std.proofs.Common.{refl, sym, subst}
use Rattle.std.specs.List.{AllZip}
use Rattle.rpki_basics.specs.Moment.{Moment}
use Rattle.rpki_certs.specs.Cert.{Certificate}
use Rattle.rpki_certs.specs.Validate.{Validated}
use Rattle.rpki_crls.specs.Crl.{KeptCrl}
use Rattle.rpki_validation.specs.Issuer.{IsNextCa, Leads, Then}
use Rattle.rpki_validation.specs.Revoked.{IsRevokedAt, IsUnrevoked, Revokes}
use Rattle.rpki_validation.specs.declared.refusal.CaFault.{CaFault}
use Rattle.rpki_validation.specs.declared.refusal.IssuerFault.{IssuerFault}

-- what a test denies does not hold
pub not-true : {P : Type 0} (b : Bool) → b ≡ false → IsTrue b ↔ P → P → ⊥
not-true b e h p = let t : b ≡ true = h.1 p in absurd cc

-- what a list revokes is not unrevoked
pub revoked-not : (lists : List KeptCrl) (issuer c : Certificate) (place : ℕ)
    → IsRevokedAt lists issuer c place → IsUnrevoked lists issuer c → ⊥
revoked-not lists issuer c place r unrevoked =
    unrevoked place r.list r.placed.there
    (subst (λ (l : KeptCrl). Revokes issuer c l.list) (sym r.placed.is) r.revokes)

module _ (lists : List KeptCrl) (now : Moment) (place : ℕ) (issuer : Validated)
    (next : Result Validated CaFault) (result : Result Validated IssuerFault) where
  step : (chain : List (List ℕ)) (i : ℕ) (x : List ℕ) → i < length chain → x ≡ get_or chain i x
      → IsNextCa lists now issuer x next
      → Then place (λ valid. Leads lists now (place + 1) valid (drop (suc i) chain) result) next result
      → Leads lists now place issuer (drop i chain) result
  step [] i x l e is t = absurd (omega (arith, l))
  step (y ∷ ys) zero x l e is t =
      (next, subst (λ (o : List ℕ). IsNextCa lists now issuer o next) e is, t)
  step (y ∷ ys) (suc i) x l e is t = step ys i x (omega (arith, l)) e is t

  -- what is answered of a certificate and of those after it
  pub one-more : (chain : List (List ℕ)) (i : ℕ) (x : List ℕ) → i < length chain
      → x ≡ get_or chain i x → IsNextCa lists now issuer x next
      → Then place (λ valid. Leads lists now (place + 1) valid (drop (i + 1) chain) result) next result
      → Leads lists now place issuer (drop i chain) result
  one-more chain i x l e is t =
      let same : i + 1 ≡ suc i = omega arith in
      step chain i x l e is
      (subst (λ (k : ℕ). Then place (λ valid. Leads lists now (place + 1) valid (drop k chain) result)
      next result) same t)

none-left : {X : Type 0} (items : List X) (i : ℕ) → (i < length items → ⊥) → drop i items ≡ []
none-left [] zero n = refl
none-left [] (suc i) n = refl
none-left (x ∷ xs) zero n = absurd (n (omega arith))
none-left (x ∷ xs) (suc i) n = none-left xs i (λ l. n (omega (arith, l)))

-- what is answered where none is left
pub last-one : (lists : List KeptCrl) (now : Moment) (place : ℕ) (issuer : Validated)
    (chain : List (List ℕ)) (i : ℕ) → (i < length chain → ⊥)
    → Leads lists now place issuer (drop i chain) (Ok issuer)
last-one lists now place issuer chain i n =
    subst (λ (rest : List (List ℕ)). Leads lists now place issuer rest (Ok issuer))
    (sym (none-left chain i n)) refl

-- ---- pairs

zip-step : {A B : Type 0} (R : A → B → Type 0) (xs : List A) (ys : List B) (i : ℕ) (d : A) (y : B)
    → i < length xs → AllZip R (take i xs) ys → R (get_or xs i d) y
    → AllZip R (take (suc i) xs) (ys ++ y ∷ [])
zip-step R [] ys i d y l h r = absurd (omega (arith, l))
zip-step R (x ∷ xs) [] zero d y l h r = (r, tt)
zip-step R (x ∷ xs) (z ∷ zs) zero d y l h r = absurd h
zip-step R (x ∷ xs) [] (suc i) d y l h r = absurd h
zip-step R (x ∷ xs) (z ∷ zs) (suc i) d y l h r =
    (h.0, zip-step R xs zs i d y (omega (arith, l)) h.1 r)

-- one pair more
pub zip-more : {A B : Type 0} (R : A → B → Type 0) (xs : List A) (ys : List B) (i : ℕ) (d : A)
    (y : B) → i < length xs → AllZip R (take i xs) ys → R (get_or xs i d) y
    → AllZip R (take (i + 1) xs) (ys ++ y ∷ [])
zip-more R xs ys i d y l h r =
    let same : i + 1 ≡ suc i = omega arith in
    subst (λ (n : ℕ). AllZip R (take n xs) (ys ++ y ∷ [])) (sym same) (zip-step R xs ys i d y l h r)

-- ---- tests

-- a test that fails decides what does not hold
pub false-only : {P : Type 0} → (P → ⊥) → IsTrue false ↔ P
false-only none = (λ t. absurd cc, λ p. absurd (none p))
