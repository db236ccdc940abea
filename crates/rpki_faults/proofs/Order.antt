-- Checks in a given order, by cases on the list of them.
use Rattle.std.proofs.Common.{◌≡◌, ◌⊎◌, inl, inr, suc, List, [], ◌∷◌, ◌++◌, refl, ap, arith}
use Rattle.std.specs.Prelude.{Contains}
use Rattle.rpki_faults.specs.Checks.{Check, AllHold, IsFirstFault, faults_of}
use Rattle.rpki_faults.specs.Checks.{◌as_faults_of◌}

module _ {F : Type 0} where
  -- the fault stands in the list
  pub first-contained : (checks : List (Check F)) (fault : F) → IsFirstFault checks fault
      → Contains (faults_of checks) fault
  first-contained [] fault h = absurd h
  first-contained (check ∷ others) fault (inl h) =
      let r = first-contained others fault h.1 in (suc r.0, omega (arith, r.1), r.2)
  first-contained (check ∷ others) fault (inr h) = (0, omega arith, cc h.1)

  -- not all hold
  pub first-fails : (checks : List (Check F)) (fault : F) → IsFirstFault checks fault
      → AllHold checks → ⊥
  first-fails [] fault h all = h
  first-fails (check ∷ others) fault (inl h) all = first-fails others fault h.1 all.1
  first-fails (check ∷ others) fault (inr h) all = h.0 all.0

  -- there is one
  pub first-one : (checks : List (Check F)) (a b : F) → IsFirstFault checks a
      → IsFirstFault checks b → a ≡ b
  first-one [] a b h k = absurd h
  first-one (check ∷ others) a b (inl h) (inl k) = first-one others a b h.1 k.1
  first-one (check ∷ others) a b (inl h) (inr k) = absurd (k.0 h.0)
  first-one (check ∷ others) a b (inr h) (inl k) = absurd (h.0 k.0)
  first-one (check ∷ others) a b (inr h) (inr k) = let p = h.1 in let q = k.1 in cc

  -- all of both hold
  pub hold-join : (xs ys : List (Check F)) → AllHold xs × AllHold ys → AllHold (xs ++ ys)
  hold-join [] ys h = h.1
  hold-join (x ∷ xs) ys h = (h.0.0, hold-join xs ys (h.0.1, h.1))

  pub hold-split : (xs ys : List (Check F)) → AllHold (xs ++ ys) → AllHold xs × AllHold ys
  hold-split [] ys h = (tt, h)
  hold-split (x ∷ xs) ys h = let r = hold-split xs ys h.1 in ((h.0, r.0), r.1)

  -- the first fault of both
  pub first-split : (xs ys : List (Check F)) (fault : F) → IsFirstFault (xs ++ ys) fault
      → IsFirstFault xs fault ⊎ (AllHold xs × IsFirstFault ys fault)
  first-split [] ys fault h = inr (tt, h)
  first-split (x ∷ xs) ys fault (inl h) = of (first-split xs ys fault h.1)
    where
      of : IsFirstFault xs fault ⊎ (AllHold xs × IsFirstFault ys fault)
          → IsFirstFault (x ∷ xs) fault ⊎ (AllHold (x ∷ xs) × IsFirstFault ys fault)
      of (inl k) = inl (inl (h.0, k))
      of (inr k) = inr ((h.0, k.0), k.1)
  first-split (x ∷ xs) ys fault (inr h) = inl (inr h)

  pub first-join : (xs ys : List (Check F)) (fault : F)
      → IsFirstFault xs fault ⊎ (AllHold xs × IsFirstFault ys fault)
      → IsFirstFault (xs ++ ys) fault
  first-join [] ys fault (inl h) = absurd h
  first-join [] ys fault (inr h) = h.1
  first-join (x ∷ xs) ys fault (inl (inl h)) = inl (h.0, first-join xs ys fault (inl h.1))
  first-join (x ∷ xs) ys fault (inl (inr h)) = inr h
  first-join (x ∷ xs) ys fault (inr h) = inl (h.0.0, first-join xs ys fault (inr (h.0.1, h.1)))

module _ {F G : Type 0} (shown : F → G) where
  -- all hold, however their faults are shown
  pub hold-shown : (checks : List (Check F)) → AllHold checks → AllHold (shown as_faults_of checks)
  hold-shown [] h = h
  hold-shown (check ∷ others) h = (h.0, hold-shown others h.1)

  pub hold-hidden : (checks : List (Check F)) → AllHold (shown as_faults_of checks) → AllHold checks
  hold-hidden [] h = h
  hold-hidden (check ∷ others) h = (h.0, hold-hidden others h.1)

  -- the first fault, shown
  pub first-shown : (checks : List (Check F)) (fault : F) → IsFirstFault checks fault
      → IsFirstFault (shown as_faults_of checks) (shown fault)
  first-shown [] fault h = absurd h
  first-shown (check ∷ others) fault (inl h) = inl (h.0, first-shown others fault h.1)
  first-shown (check ∷ others) fault (inr h) = inr (h.0, ap shown h.1)

  pub first-hidden : (checks : List (Check F)) (other : G)
      → IsFirstFault (shown as_faults_of checks) other
      → (fault : F) × IsFirstFault checks fault × (other ≡ shown fault)
  first-hidden [] other h = absurd h
  first-hidden (check ∷ others) other (inl h) =
      let r = first-hidden others other h.1 in (r.0, inl (h.0, r.1), r.2)
  first-hidden (check ∷ others) other (inr h) = (check.0, inr (h.0, refl), h.1)
