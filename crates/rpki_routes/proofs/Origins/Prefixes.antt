-- Looking at the prefixes of a list, one after the other, for the first that is not covered.
use Rattle.std.proofs.Common.{◌≡◌, ℕ, inl, inr, List, [], ◌∷◌, refl, subst, sym}
use Rattle.rpki_resources.specs.declared.block.Block.{Block}
use Rattle.rpki_resources.specs.declared.family.AddressFamily.{AddressFamily}
use Rattle.rpki_faults.specs.Checks.{AllHold, IsFirstFault}
use Rattle.rpki_faults.specs.declared.verification.VerificationError.{VerificationError}
use Rattle.rpki_routes.specs.Roa.{Address}
use Rattle.rpki_routes.specs.Roa.Checks.{HasPrefix, prefix_checks, uncovered}

-- What is checked of all is left to those that are left.
pub record LeftTo (family : AddressFamily) (set : List (Block ℕ)) (all left : List Address)
    : Type 0 where
  pub first : (fault : VerificationError) → IsFirstFault (prefix_checks family set left) fault
      → IsFirstFault (prefix_checks family set all) fault
  pub hold : AllHold (prefix_checks family set left) → AllHold (prefix_checks family set all)

module _ (family : AddressFamily) (set : List (Block ℕ)) where
  pub left-all : (all : List Address) → LeftTo family set all all
  left-all all = record { first = λ fault h. h; hold = λ h. h }

  pub left-more : (all left now : List Address) (a : Address) → LeftTo family set all left
      → left ≡ a ∷ now → HasPrefix set a → LeftTo family set all now
  left-more all left now a s e has = record {
    first = λ fault h. s.first fault
        (subst (λ (l : List Address). IsFirstFault (prefix_checks family set l) fault) (sym e)
        (inl (has, h)));
    hold = λ h. s.hold
        (subst (λ (l : List Address). AllHold (prefix_checks family set l)) (sym e) (has, h));
  }

  pub first-uncovered : (all left now : List Address) (a : Address) → LeftTo family set all left
      → left ≡ a ∷ now → (HasPrefix set a → ⊥)
      → IsFirstFault (prefix_checks family set all) (uncovered family a)
  first-uncovered all left now a s e has = s.first (uncovered family a)
      (subst (λ (l : List Address). IsFirstFault (prefix_checks family set l) (uncovered family a))
      (sym e) (inr (has, refl)))

  pub all-covered : (all left : List Address) → LeftTo family set all left → left ≡ []
      → AllHold (prefix_checks family set all)
  all-covered all left s e =
      s.hold (subst (λ (l : List Address). AllHold (prefix_checks family set l)) (sym e) tt)
