-- What is answered where checks are followed by a question to the caller.
use Rattle.std.specs.Prelude.{◌≡◌, ◌⊎◌, List, Result, Ok, Err}
use Rattle.rpki_faults.specs.Checks.{Check, AllHold, IsFirstFault}

-- Checks, and a later answer. A value means that each check holds, and is the later answer. A
-- fault is for want of memory, that of the first check that does not hold, or, where each holds,
-- the later answer.
abbrev pub AnswersThen : {T F : Type 0} → F → List (Check F) → (Result T F → Type 0) → Result T F
    → Type 0
AnswersThen memory checks Later (Ok value) = AllHold checks × Later (Ok value)
AnswersThen memory checks Later (Err fault) =
    (fault ≡ memory) ⊎ (IsFirstFault checks fault ⊎ (AllHold checks × Later (Err fault)))

-- A question, and a later answer. A value means that what is said to the question is a yes, and is
-- the later answer. A fault is what is said, or, where that is a yes, the later answer.
abbrev pub AsksThen : {T F : Type 0} → (Result (Unit {0}) F → Type 0) → (Result T F → Type 0)
    → Result T F → Type 0
AsksThen Said Later (Ok value) = Said (Ok tt) × Later (Ok value)
AsksThen Said Later (Err fault) = Said (Err fault) ⊎ (Said (Ok tt) × Later (Err fault))
