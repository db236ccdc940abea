-- Rules over the entries of a list, in order.
use Rattle.std.specs.Prelude.{◌≡◌, ℕ, List, [], ◌∷◌, length, Option, None, Some, Bool, true, false}
use Rattle.std.specs.Prelude.{Result, Ok, Err}
use Rattle.rpki_der.specs.declared.mode.Mode.TheVariants.{Der}
use Rattle.rpki_der.specs.Read.Parse.{Parser}

-- whether something is there, and the test holds of it
abbrev pub goes_on : {S : Type 0} → (S → Bool) → Option S → Bool
goes_on test None = false
goes_on test (Some s) = test s

-- Whether the entries may stand one after the other, from what the rule has seen: after says what
-- it has seen after an entry, if the entry may stand there.
abbrev pub admits : {S X : Type 0} → (S → X → Option S) → S → List X → Bool
admits after s [] = true
admits after s (x ∷ xs) = goes_on (λ t. admits after t xs) (after s x)

-- the step of a rule that admits every entry: it has seen the same
abbrev pub lets_all : {S X : Type 0} → S → X → Option S
lets_all s x = Some s

-- An entry is gone past, where there is one that may stand there.
abbrev pub PassesBy : {S X E : Type 0} → Parser X → (S → X → Option S) → S → List ℕ
    → Result (Unit {0}) E → S → List ℕ → Type 0
PassesBy {S} {X} p after s old (Ok u) t new =
    (x : X) × (p Der old ≡ Some (x, new)) × (after s x ≡ Some t)
PassesBy {S} {X} p after s old (Err e) t new =
    (x : X) (r : List ℕ) → p Der old ≡ Some (x, r) → after s x ≡ None

-- How many entries were found, if they pass the test.
abbrev pub CountsBy : {X E : Type 0} → (List X → Bool) → Option (List X) → Result ℕ E → Type 0
CountsBy {X} test found (Ok n) =
    (xs : List X) × (found ≡ Some xs) × (test xs ≡ true) × (length xs ≡ n)
CountsBy {X} test found (Err e) = (xs : List X) → found ≡ Some xs → test xs ≡ false
