-- A chain of certificates, one by one.
use Rattle.std.proofs.Common.{◌≡◌, ℕ, zero, suc, ◌+◌, ◌<◌, List, [], ◌∷◌, length, drop, get_or}
use Rattle.std.proofs.Common.{Result, Ok, arith, refl, sym, subst}
use Rattle.rpki_basics.specs.Moment.{Moment}
use Rattle.rpki_certs.specs.Validate.{Validated}
use Rattle.rpki_certs.specs.Verify.{Verdict}
use Rattle.rpki_certs.specs.Issuer.{IsIssued, Then, Follows}
use Rattle.rpki_certs.specs.declared.issuer.IssuerError.{IssuerError}

module _ (verdict : Verdict) (now : Moment) (issuer : Validated)
    (next : Result Validated IssuerError)
    (result : Result Validated IssuerError) where
  step : (chain : List (List ℕ)) (i : ℕ) (d : List ℕ) → i < length chain
      → IsIssued verdict now issuer (get_or chain i d) next
      → Then (λ valid. Follows verdict now valid (drop (suc i) chain) result) next
      result
      → Follows verdict now issuer (drop i chain) result
  step [] i d l is t = absurd (omega (arith, l))
  step (x ∷ xs) zero d l is t = (next, is, t)
  step (x ∷ xs) (suc i) d l is t = step xs i d (omega (arith, l)) is t

  -- what is answered of a certificate and of those after it
  pub one-more : (chain : List (List ℕ)) (i j : ℕ) (d : List ℕ) → j ≡ i + 1
      → i < length chain → IsIssued verdict now issuer (get_or chain i d) next
      → Then (λ valid. Follows verdict now valid (drop j chain) result) next result
      → Follows verdict now issuer (drop i chain) result
  one-more chain i j d e l is t =
      let same : j ≡ suc i = omega (arith, e) in
      step chain i d l is
      (subst (λ (k : ℕ). Then (λ valid. Follows verdict now valid (drop k chain) result)
      next result) same t)

none-left : (chain : List (List ℕ)) (i : ℕ) → (i < length chain → ⊥)
    → drop i chain ≡ []
none-left [] zero n = refl
none-left [] (suc i) n = refl
none-left (x ∷ xs) zero n = absurd (n (omega arith))
none-left (x ∷ xs) (suc i) n = none-left xs i (λ l. n (omega (arith, l)))

-- what is answered where none is left
pub last-one : (verdict : Verdict) (now : Moment) (issuer : Validated)
    (chain : List (List ℕ)) (i : ℕ) → (i < length chain → ⊥)
    → Follows verdict now issuer (drop i chain) (Ok issuer)
last-one verdict now issuer chain i n =
    subst (λ (rest : List (List ℕ)). Follows verdict now issuer rest (Ok issuer))
    (sym (none-left chain i n)) refl
