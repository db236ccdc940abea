-- What is answered where one call checks after another.
use Rattle.std.proofs.Common.{◌≡◌, ◌⊎◌, inl, inr, List, ◌++◌, Result, Ok, Err}
use Rattle.rpki_faults.specs.Checks.{Check, AllHold, IsFirstFault, AnswersFirstOr}
use Rattle.rpki_faults.specs.Checks.{◌as_faults_of◌}
use Rattle.rpki_faults.proofs.Order.{first-join, hold-join, first-shown, hold-shown}

-- the fault of the first check that does not hold, or want of memory
abbrev pub Refuses : {F : Type 0} → F → List (Check F) → F → Type 0
Refuses memory checks fault = (fault ≡ memory) ⊎ IsFirstFault checks fault

module _ {F : Type 0} (memory : F) (front later : List (Check F)) where
  -- what the call in front refuses
  pub front-refuses : (fault : F) → Refuses memory front fault
      → Refuses memory (front ++ later) fault
  front-refuses fault (inl h) = inl h
  front-refuses fault (inr h) = inr (first-join front later fault (inl h))

  -- what the later call refuses
  pub later-refuses : (fault : F) → AllHold front → Refuses memory later fault
      → Refuses memory (front ++ later) fault
  later-refuses fault held (inl h) = inl h
  later-refuses fault held (inr h) = inr (first-join front later fault (inr (held, h)))

  -- what the later call answers
  pub later-answers : {T : Type 0} (Yes : T → Type 0) (r : Result T F) → AllHold front
      → AnswersFirstOr memory later Yes r → AnswersFirstOr memory (front ++ later) Yes r
  later-answers Yes (Ok value) held h = (hold-join front later (held, h.0), h.1)
  later-answers Yes (Err fault) held h = later-refuses fault held h

module _ {F G : Type 0} (shown : F → G) (memory : G) (front : List (Check F))
    (later : List (Check G)) where
  -- what a call in front refuses, whose faults are handed on
  pub shown-refuses : (fault : F) → IsFirstFault front fault
      → Refuses memory ((shown as_faults_of front) ++ later) (shown fault)
  shown-refuses fault h =
      front-refuses memory (shown as_faults_of front) later (shown fault)
      (inr (first-shown shown front fault h))

  -- what a later call answers
  pub shown-answers : {T : Type 0} (Yes : T → Type 0) (r : Result T G) → AllHold front
      → AnswersFirstOr memory later Yes r
      → AnswersFirstOr memory ((shown as_faults_of front) ++ later) Yes r
  shown-answers Yes r held h =
      later-answers memory (shown as_faults_of front) later Yes r
      (hold-shown shown front held) h
