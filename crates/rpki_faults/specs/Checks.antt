-- Checks in a given order, of which the first that does not hold decides the answer.
use Rattle.std.specs.Prelude.{◌≡◌, ◌⊎◌, List, [], ◌∷◌, Result, Ok, Err}

-- A check: what has to hold, and the fault that is answered where it does not.
abbrev pub Check : Type 0 → Type 1
Check F = F × Type 0

-- a check: the fault a is answered unless b holds
infix 20 ◌unless◌
abbrev pub ◌unless◌ : {F : Type 0} → F → Type 0 → Check F
fault unless P = (fault, P)

-- Each check holds.
abbrev pub AllHold : {F : Type 0} → List (Check F) → Type 0
AllHold [] = Unit {0}
AllHold (check ∷ others) = check.1 × AllHold others

-- The fault is that of the first check that does not hold.
abbrev pub IsFirstFault : {F : Type 0} → List (Check F) → F → Type 0
IsFirstFault [] fault = ⊥
IsFirstFault (check ∷ others) fault =
    (check.1 × IsFirstFault others fault) ⊎ ((check.1 → ⊥) × (fault ≡ check.0))

-- A yes means that each check holds, and a fault is that of the first that does not.
abbrev pub AnswersFirstFault : {F : Type 0} → List (Check F) → Result (Unit {0}) F → Type 0
AnswersFirstFault checks (Ok done) = AllHold checks
AnswersFirstFault checks (Err fault) = IsFirstFault checks fault

-- A value means that each check holds, and Yes holds of the value; a fault is that of the first
-- check that does not hold.
abbrev pub AnswersFirst : {T F : Type 0} → List (Check F) → (T → Type 0) → Result T F → Type 0
AnswersFirst checks Yes (Ok value) = AllHold checks × Yes value
AnswersFirst checks Yes (Err fault) = IsFirstFault checks fault

-- A value means that each check holds, and Yes holds of the value; a fault is memory, or that of
-- the first check that does not hold.
abbrev pub AnswersFirstOr : {T F : Type 0} → F → List (Check F) → (T → Type 0) → Result T F
    → Type 0
AnswersFirstOr memory checks Yes (Ok value) = AllHold checks × Yes value
AnswersFirstOr memory checks Yes (Err fault) = (fault ≡ memory) ⊎ IsFirstFault checks fault

-- The checks b, with the fault of each as a shows it: so a call hands on the faults of another.
infix 20 ◌as_faults_of◌
abbrev pub ◌as_faults_of◌ : {F G : Type 0} → (F → G) → List (Check F) → List (Check G)
shown as_faults_of [] = []
shown as_faults_of (check ∷ others) = (shown check.0 unless check.1) ∷ (shown as_faults_of others)

-- The faults of some checks, in their order.
abbrev pub faults_of : {F : Type 0} → List (Check F) → List F
faults_of [] = []
faults_of (check ∷ others) = check.0 ∷ faults_of others
