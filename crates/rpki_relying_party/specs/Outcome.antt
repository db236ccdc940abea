-- What comes of a part of the reading of a publication point.
use Rattle.std.specs.Prelude.{◌≡◌, ℕ, ◌+◌, ◌<◌, List, ◌++◌, Result, Ok, Err}
use Rattle.rpki_relying_party.specs.declared.cause.Cause.{Cause}
use Rattle.rpki_relying_party.specs.declared.cause.Stop.{Stop}
use Rattle.rpki_relying_party.specs.declared.cause.Stop.TheVariants.{Room, Memory, Refused}

-- So much was spent of the room.
abbrev pub Spends : (ℕ → Type 0) → ℕ → ℕ → Type 0
Spends Costs old new = (n : ℕ) × Costs n × (new + n ≡ old)

-- `Yes` holds of a value and of what was spent on it; or the point is refused for the first check
-- that fails, and `Why` holds of this and of what was spent until then; or there was too little
-- room for what some first steps cost; or no memory.
abbrev pub IsOutcome : {T : Type 0} → (ℕ → Type 0) → (T → ℕ → Type 0) → (Cause → ℕ → Type 0) → ℕ
    → ℕ → Result T Stop → Type 0
IsOutcome Starts Yes Why old new (Ok value) = Spends (Yes value) old new
IsOutcome Starts Yes Why old new (Err Room) = (n : ℕ) × Starts n × (old < n)
IsOutcome Starts Yes Why old new (Err Memory) = Unit {0}
IsOutcome Starts Yes Why old new (Err (Refused cause)) = Spends (Why cause) old new

-- These were put at the end of a list, at this cost; or there was too little room for it; or no
-- memory.
abbrev pub Puts : {X : Type 0} → ℕ → List X → List X → List X → ℕ → ℕ → Result (Unit {0}) Stop
    → Type 0
Puts cost put old new room left result = IsOutcome (λ n. n ≡ cost)
    (λ _ n. (new ≡ old ++ put) × (n ≡ cost)) (λ cause n. ⊥) room left result

-- These were put at the ends of two lists, and P holds of them.
pub record AppendsBoth {X Y : Type 0} (P : List X → List Y → Type 0) (old new : List X)
    (old2 new2 : List Y) : Type 0 where
  pub put : List X
  pub put2 : List Y
  pub holds : P put put2
  pub appends : new ≡ old ++ put
  pub appends2 : new2 ≡ old2 ++ put2
