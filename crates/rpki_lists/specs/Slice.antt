-- What a call of a reader of a slice answers.
use Rattle.std.specs.Prelude.{◌≡◌, ℕ, true, List, [], ◌∷◌, Option, None, Some, IsSome}
use Rattle.rpki_der.specs.declared.mode.Mode.TheVariants.{Der}
use Rattle.rpki_der.specs.Grammar.{IsBytes, HasNoFront}
use Rattle.rpki_der.specs.Read.Parse.{Parser, optional, is_next}
use Rattle.rpki_der.specs.Form.Decodes.{IsOnlyFront, IsNextOrAbsent}

-- The call finds what p finds by the rules of DER, and leaves what p leaves.
abbrev pub FindsFront : {T X : Type 0} → (T → X) → Parser X → List ℕ → Option T → List ℕ → Type 0
FindsFront view p old None new = p Der old ≡ None
FindsFront view p old (Some t) new = p Der old ≡ Some (view t, new)

-- The octets begin with what p finds by the rules of DER.
abbrev pub IsFound : {X : Type 0} → Parser X → List ℕ → Type 0
IsFound p octets = IsSome (p Der octets)

-- a call that finds nothing leaves all
abbrev pub Keeps : {T : Type 0} → Option T → List ℕ → List ℕ → Type 0
Keeps None old new = new ≡ old
Keeps (Some t) old new = Unit {0}

-- what may be there, seen by view
abbrev pub seen : {T X : Type 0} → (T → X) → Option T → Option X
seen view None = None
seen view (Some t) = Some (view t)

-- the value, where nothing is left
abbrev pub Closes : {T : Type 0} → T → List ℕ → Option T → Type 0
Closes value rest None = (b : ℕ) × (others : List ℕ) × (rest ≡ b ∷ others)
Closes value rest (Some t) = (rest ≡ []) × (t ≡ value)

-- What a call answers, by a form alone: what it finds is all that the octets begin with in the
-- form, and where it finds nothing, they begin with nothing in the form.
abbrev pub TakesForm : {T X : Type 0} → (List ℕ → X → Type 0) → (T → X) → List ℕ → Option T
    → List ℕ → Type 0
TakesForm form view octets None rest = HasNoFront form octets
TakesForm form view octets (Some t) rest = IsOnlyFront form octets (view t) rest

-- The same where a value with this tag may be next: it is absent, or all that the octets begin with
-- in the form; where the call finds nothing, the tag is next, and nothing in the form.
abbrev pub TakesFormIfNext : {T X : Type 0} → ℕ → (List ℕ → X → Type 0) → (T → Option X) → List ℕ
    → Option T → List ℕ → Type 0
TakesFormIfNext tag form view octets None rest = (is_next tag octets ≡ true)
    × HasNoFront form octets
TakesFormIfNext tag form view octets (Some t) rest = IsNextOrAbsent tag form octets (view t) rest

-- Each call that answers a T, and finds what p finds, answers as `TakesForm` says.
abbrev pub IsTakenBy : (T : Type 0) → {X : Type 0} → Parser X → (List ℕ → X → Type 0) → Type 0
IsTakenBy T {X} p form = (view : T → X) (octets : List ℕ) (result : Option T) (rest : List ℕ)
    → IsBytes octets → FindsFront view p octets result rest → TakesForm form view octets result rest

-- Each call that answers a T, and finds what p finds where the tag is next, and else that it is
-- absent, answers as `TakesFormIfNext` says.
abbrev pub IsTakenIfNextBy : (T : Type 0) → {X : Type 0} → ℕ → Parser X → (List ℕ → X → Type 0)
    → Type 0
IsTakenIfNextBy T {X} tag p form =
    (view : T → Option X) (octets : List ℕ) (result : Option T) (rest : List ℕ)
    → IsBytes octets → FindsFront view (optional tag p) octets result rest
    → TakesFormIfNext tag form view octets result rest
