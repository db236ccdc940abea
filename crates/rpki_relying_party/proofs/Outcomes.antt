-- What comes of one step, and of a further one.
use Rattle.std.proofs.Common.{◌≡◌, ℕ, ◌+◌, ◌<◌, List, ◌++◌, Result, Ok, Err, MatchResult}
use Rattle.std.proofs.Common.{refl, sym, subst, arith}
use Rattle.rpki_relying_party.specs.Outcome.{Spends, IsOutcome, Puts}
use Rattle.rpki_relying_party.specs.declared.cause.Cause.{Cause}
use Rattle.rpki_relying_party.specs.declared.cause.Stop.{Stop}
use Rattle.rpki_relying_party.specs.declared.cause.Stop.TheVariants.{Room, Memory, Refused}

-- nothing is spent
pub none-spent : (Costs : ℕ → Type 0) (room : ℕ) → Costs 0 → Spends Costs room room
none-spent Costs room none = (0, none, omega arith)

-- what costs A costs C
pub spent-as : {A : ℕ → Type 0} (C : ℕ → Type 0) → ((n : ℕ) → A n → C n) → (old new : ℕ)
    → Spends A old new → Spends C old new
spent-as C costs old new h = (h.0, costs (h.0) (h.1), h.2)

-- there is too little room for what some first steps cost
pub outcome-of-room : {T : Type 0} (Starts : ℕ → Type 0) (Yes : T → ℕ → Type 0)
    (Why : Cause → ℕ → Type 0) (n old new : ℕ) → Starts n → (stop : Stop)
    → (stop ≡ Room) × (old < n) × (new ≡ old) → IsOutcome Starts Yes Why old new (Err stop)
outcome-of-room Starts Yes Why n old new c stop h =
    subst (λ (s : Stop). IsOutcome Starts Yes Why old new (Err s)) (sym (h.0)) (n, c, h.1)

-- nor for what is put
pub puts-of-room : {X : Type 0} (cost : ℕ) (put old new : List X) (room left : ℕ) (stop : Stop)
    → (stop ≡ Room) × (room < cost) × (left ≡ room) → Puts cost put old new room left (Err stop)
puts-of-room cost put old new room left stop h = outcome-of-room (λ n. n ≡ cost)
    (λ (_ : Unit {0}) n. (new ≡ old ++ put) × (n ≡ cost)) (λ cause n. ⊥) cost room left refl stop h

-- where it is done A holds, and so does B
pub done-as : {T E A B : Type 0} (P : E → Type 0) (r : Result T E) → (A → B)
    → MatchResult r (λ _. A) P → MatchResult r (λ _. B) P
done-as P (Ok x) f a = f a
done-as P (Err e) f a = a

-- memory ran out
pub outcome-of-memory : {T : Type 0} (Starts : ℕ → Type 0) (Yes : T → ℕ → Type 0)
    (Why : Cause → ℕ → Type 0) (old new : ℕ) (stop : Stop) → stop ≡ Memory
    → IsOutcome Starts Yes Why old new (Err stop)
outcome-of-memory Starts Yes Why old new stop e =
    subst (λ (s : Stop). IsOutcome Starts Yes Why old new (Err s)) (sym e) tt

-- Some first steps that cost A cost C.
module _ {A : ℕ → Type 0} (C : ℕ → Type 0) (starts : (n : ℕ) → A n → C n)
    {V W : Cause → ℕ → Type 0} (why : (cause : Cause) (n : ℕ) → V cause n → W cause n)
    (old new : ℕ) where
  -- what comes of the last step comes of all
  pub outcome-as : {T : Type 0} {Y Z : T → ℕ → Type 0}
      (holds : (value : T) (n : ℕ) → Y value n → Z value n) (r : Result T Stop)
      → IsOutcome A Y V old new r → IsOutcome C Z W old new r
  outcome-as holds (Ok value) h = (h.0, holds value (h.0) (h.1), h.2)
  outcome-as holds (Err Room) h = (h.0, starts (h.0) (h.1), h.2)
  outcome-as holds (Err Memory) h = tt
  outcome-as holds (Err (Refused cause)) h = (h.0, why cause (h.0) (h.1), h.2)

  -- where the first step stops, so do all
  pub outcome-stops : {T U : Type 0} (Y : T → ℕ → Type 0) (Z : U → ℕ → Type 0) (stop : Stop)
      → IsOutcome A Y V old new (Err stop) → IsOutcome C Z W old new (Err stop)
  outcome-stops Y Z Room h = (h.0, starts (h.0) (h.1), h.2)
  outcome-stops Y Z Memory h = tt
  outcome-stops Y Z (Refused cause) h = (h.0, why cause (h.0) (h.1), h.2)

-- The first step costs F, some first steps of the second B, and both together C.
module _ {F B : ℕ → Type 0} (C : ℕ → Type 0) (starts : (a b : ℕ) → F a → B b → C (a + b))
    {V : Cause → ℕ → Type 0} (W : Cause → ℕ → Type 0)
    (why : (cause : Cause) (a b : ℕ) → F a → V cause b → W cause (a + b))
    (old mid new : ℕ) (first : Spends F old mid) where
  -- what comes of the second step comes of both
  pub outcome-then : {T : Type 0} {Y : T → ℕ → Type 0} (Z : T → ℕ → Type 0)
      (holds : (value : T) (a b : ℕ) → F a → Y value b → Z value (a + b)) (r : Result T Stop)
      → IsOutcome B Y V mid new r → IsOutcome C Z W old new r
  outcome-then Z holds (Ok value) h = (
    first.0 + h.0,
    holds value (first.0) (h.0) (first.1) (h.1),
    omega (arith, first.2, h.2),
  )
  outcome-then Z holds (Err Room) h = (
    first.0 + h.0,
    starts (first.0) (h.0) (first.1) (h.1),
    omega (arith, first.2, h.2),
  )
  outcome-then Z holds (Err Memory) h = tt
  outcome-then Z holds (Err (Refused cause)) h = (
    first.0 + h.0,
    why cause (first.0) (h.0) (first.1) (h.1),
    omega (arith, first.2, h.2),
  )
