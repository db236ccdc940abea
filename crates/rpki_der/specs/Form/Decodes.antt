-- What a decoder answers, by the form alone.
use Rattle.std.specs.Prelude.{◌≡◌, ℕ, List, true, false, Option, None, Some, Result, Ok, Err}
use Rattle.std.specs.Prelude.{MatchOption}
use Rattle.rpki_der.specs.declared.mode.Mode.{Mode}
use Rattle.rpki_der.specs.declared.error.DecodeError.{DecodeError}
use Rattle.rpki_der.specs.Grammar.{Front, HasNoFront}
use Rattle.rpki_der.specs.Read.Parse.{is_next}
use Rattle.rpki_der.specs.Read.Reads.{Refuses, RepeatsError}
use Rattle.rpki_der.specs.Read.State.{State}

-- The octets begin with x in the form, rest follows it, and they begin with nothing else in the
-- form.
pub record IsOnlyFront {X : Type 0} (form : List ℕ → X → Type 0) (octets : List ℕ) (x : X)
    (rest : List ℕ) : Type 0 where
  pub found : Front form octets x rest
  pub only : (y : X) (other : List ℕ) → Front form octets y other → (y ≡ x) × (other ≡ rest)

-- What decodes the front of these octets by the form: what is answered is what they begin with, and
-- where they are refused, they begin with nothing in the form, unless memory ran out.
abbrev pub Decodes : {T X : Type 0} → (List ℕ → X → Type 0) → (T → X) → List ℕ
    → Result T DecodeError → Type 0
Decodes form view octets (Ok t) = (rest : List ℕ) × IsOnlyFront form octets (view t) rest
Decodes form view octets (Err e) = Refuses e (HasNoFront form octets)

-- What decodes all of these octets by the form: what is answered is what they mean in it, and they
-- mean nothing else in it; where they are refused, they are not in the form, unless memory ran out.
abbrev pub DecodesAll : {T X : Type 0} → (List ℕ → X → Type 0) → (T → X) → List ℕ
    → Result T DecodeError → Type 0
DecodesAll {T} {X} form view octets (Ok t) = form octets (view t)
    × ((x : X) → form octets x → x ≡ view t)
DecodesAll {T} {X} form view octets (Err e) = Refuses e ((x : X) → form octets x → ⊥)

-- What the reader of these octets answers and leaves: what they begin with in the form, and what
-- follows it; where it refuses, they begin with nothing in the form, unless memory ran out. Of a
-- reader that refuses, `Stays` says what it answers from then on.
abbrev pub TakesFront : {T X : Type 0} → (List ℕ → X → Type 0) → (T → X) → List ℕ
    → Result T DecodeError → State → Type 0
TakesFront form view octets (Ok t) new = IsOnlyFront form octets (view t) new.rest
    × (new.failed ≡ None)
TakesFront form view octets (Err e) new = Refuses e (HasNoFront form octets)

-- What takes from a reader by the form: the front of what is left of it is decoded, and what
-- follows is left. A reader that has failed answers its error again.
abbrev pub DecodesNext : {T X : Type 0} → (Mode → List ℕ → X → Type 0) → (T → X) → State
    → Result T DecodeError → State → Type 0
DecodesNext form view old result new =
    (new.mode ≡ old.mode)
    × MatchOption old.failed (TakesFront (form old.mode) view old.rest result new)
    (λ e. RepeatsError e result)

-- What may be next is absent: its tag is not next, the octets begin with nothing in the form, and
-- rest is all of them. Or its tag is next, and the octets begin with it in the form and with
-- nothing else in the form, and rest follows it.
abbrev pub IsNextOrAbsent : {X : Type 0} → ℕ → (List ℕ → X → Type 0) → List ℕ → Option X → List ℕ
    → Type 0
IsNextOrAbsent tag form octets None rest = (is_next tag octets ≡ false) × HasNoFront form octets
    × (rest ≡ octets)
IsNextOrAbsent tag form octets (Some x) rest = (is_next tag octets ≡ true)
    × IsOnlyFront form octets x rest

-- What the reader of these octets answers and leaves where a value with this tag may be next: what
-- `IsNextOrAbsent` says; where it refuses, the tag is next and the octets begin with nothing in the
-- form, unless memory ran out. `Stays` says what it answers from then on.
abbrev pub TakesIfNext : {T X : Type 0} → ℕ → (List ℕ → X → Type 0) → (T → Option X) → List ℕ
    → Result T DecodeError → State → Type 0
TakesIfNext tag form view octets (Ok t) new = IsNextOrAbsent tag form octets (view t) new.rest
    × (new.failed ≡ None)
TakesIfNext tag form view octets (Err e) new =
    Refuses e ((is_next tag octets ≡ true) × HasNoFront form octets)

-- What takes from a reader by the form where a value with this tag is next, and else takes nothing.
-- It refuses only where the tag is next and the octets begin with nothing in the form, unless
-- memory ran out. A reader that has failed answers its error again.
abbrev pub DecodesIfNext : {T X : Type 0} → ℕ → (Mode → List ℕ → X → Type 0) → (T → Option X)
    → State → Result T DecodeError → State → Type 0
DecodesIfNext tag form view old result new =
    (new.mode ≡ old.mode)
    × MatchOption old.failed (TakesIfNext tag (form old.mode) view old.rest result new)
    (λ e. RepeatsError e result)
