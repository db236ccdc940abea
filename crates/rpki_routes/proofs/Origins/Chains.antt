-- What is answered where one call checks after another, and none takes memory.
use Rattle.std.proofs.Common.{◌≡◌, inl, inr, ℕ, List, subst, ◌++◌, Result, Ok, Err}
use Rattle.rpki_resources.specs.declared.block.Block.{Block}
use Rattle.rpki_resources.specs.declared.family.AddressFamily.{AddressFamily}
use Rattle.rpki_faults.specs.Checks.{AllHold, Check, IsFirstFault, AnswersFirstFault}
use Rattle.rpki_faults.proofs.Order.{hold-join, first-join}
use Rattle.rpki_routes.specs.Roa.{Address}
use Rattle.rpki_routes.specs.Roa.Checks.{family_checks}
use Rattle.rpki_faults.specs.declared.verification.VerificationError.{VerificationError}

pub later-first : {F : Type 0} (front later : List (Check F)) (r : Result (Unit {0}) F)
    → AllHold front → AnswersFirstFault later r → AnswersFirstFault (front ++ later) r
later-first front later (Ok done) held h = hold-join front later (held, h)
later-first front later (Err fault) held h = first-join front later fault (inr (held, h))

-- the prefixes of a family, where the set and the list are handed on
module _ (family : AddressFamily) (s t : List (Block ℕ)) (l m : List Address) (e : s ≡ t)
    (f : l ≡ m) where
  pub front-at : (later : List (Check VerificationError)) (fault : VerificationError)
      → IsFirstFault (family_checks family s l) fault
      → IsFirstFault (family_checks family t m ++ later) fault
  front-at later fault h = first-join (family_checks family t m) later fault (inl
      (subst (λ (l : List Address). IsFirstFault (family_checks family t l) fault) f
      (subst (λ (s : List (Block ℕ)). IsFirstFault (family_checks family s l) fault) e h)))

  pub hold-at : AllHold (family_checks family s l) → AllHold (family_checks family t m)
  hold-at h = subst (λ (l : List Address). AllHold (family_checks family t l)) f
      (subst (λ (s : List (Block ℕ)). AllHold (family_checks family s l)) e h)

  pub answers-at : (r : Result (Unit {0}) VerificationError)
      → AnswersFirstFault (family_checks family s l) r
      → AnswersFirstFault (family_checks family t m) r
  answers-at r h = subst (λ (l : List Address). AnswersFirstFault (family_checks family t l) r) f
      (subst (λ (s : List (Block ℕ)). AnswersFirstFault (family_checks family s l) r) e h)
