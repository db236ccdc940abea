-- What a call of a reader answers.
use Rattle.std.specs.Prelude.{◌≡◌, ◌⊎◌, ℕ, List, [], ◌∷◌, Option, None, Some, Result, Ok, Err}
use Rattle.std.specs.Prelude.{MatchOption, MatchBool, IfErr, IsNone}
use Rattle.rpki_der.specs.declared.error.DecodeError.{DecodeError}
use Rattle.rpki_der.specs.declared.error.DecodeError.TheVariants.{Malformed, Content, Memory}
use Rattle.rpki_der.specs.declared.error.ContentFault.TheVariants.{InvalidSignedAttr, Text}
use Rattle.rpki_der.specs.Captured.{Kept}
use Rattle.rpki_der.specs.Read.State.{State, fresh}
use Rattle.rpki_der.specs.Read.Parse.{Parser, value_at, with_front, many, all_at, taken, is_next}

-- Memory may run out at any time. Any other error tells that P holds.
abbrev pub Refuses : DecodeError → Type 0 → Type 0
Refuses Memory P = Unit {0}
Refuses Malformed P = P
Refuses (Content fault) P = P

-- What a reader that has not failed answers and leaves, where found is what stands in front of it.
abbrev pub Answers : {T X : Type 0} → (T → X) → Option (X × List ℕ) → Result T DecodeError → State
    → Type 0
Answers view found (Ok t) new = (found ≡ Some (view t, new.rest)) × (new.failed ≡ None)
Answers view found (Err e) new = Refuses e (found ≡ None)

-- the type of a signed attribute, whose copy may take memory
abbrev pub HoldsAttributeType : DecodeError → Type 0
HoldsAttributeType Malformed = ⊥
HoldsAttributeType (Content (InvalidSignedAttr attr)) = Unit {0}
HoldsAttributeType (Content (Text text)) = ⊥
HoldsAttributeType Memory = ⊥

-- an error that is answered again: the same one, or Memory where a copy of the type of a signed
-- attribute is not to be had
abbrev pub IsAgain : DecodeError → DecodeError → Type 0
IsAgain Malformed d = d ≡ Malformed
IsAgain (Content (InvalidSignedAttr attr)) d = (d ≡ Content (InvalidSignedAttr attr)) ⊎ (d ≡ Memory)
IsAgain (Content (Text text)) d = d ≡ Content (Text text)
IsAgain Memory d = d ≡ Memory

-- the call answers this error again, and the reader from then on
abbrev pub FailsAgain : {T : Type 0} → DecodeError → Result T DecodeError → State → Type 0
FailsAgain e (Ok t) new = ⊥
FailsAgain e (Err d) new = IsAgain e d × (new.failed ≡ Some d)

-- what a decoder answers, where found is what stands at the front
abbrev pub Found : {T X : Type 0} → (T → X) → Option (X × List ℕ) → Result T DecodeError → Type 0
Found view None (Ok t) = ⊥
Found view (Some x) (Ok t) = view t ≡ x.0
Found view found (Err e) = Refuses e (found ≡ None)

-- What was understood is what was found, and other errors than for memory come only where nothing
-- is found.
abbrev pub Tells : {T X : Type 0} → (T → X) → Option X → Result T DecodeError → Type 0
Tells view found (Ok t) = found ≡ Some (view t)
Tells view found (Err e) = Refuses e (found ≡ None)

-- a value of which P holds, unless memory runs out
abbrev pub OkOrMemory : {T : Type 0} → Result T DecodeError → (T → Type 0) → Type 0
OkOrMemory (Ok t) P = P t
OkOrMemory (Err e) P = e ≡ Memory

-- a failed reader answers its error again
abbrev pub RepeatsError : {T : Type 0} → DecodeError → Result T DecodeError → Type 0
RepeatsError e (Ok t) = ⊥
RepeatsError e (Err d) = IsAgain e d

-- What a call reads of a reader: what p finds, unless memory runs out. A reader that has failed
-- answers its error again.
abbrev pub Reads : {T X : Type 0} → (T → X) → Parser X → State → Result T DecodeError → State
    → Type 0
Reads view p old result new =
    (new.mode ≡ old.mode)
    × MatchOption old.failed (Answers view (p old.mode old.rest) result new)
    (λ e. RepeatsError e result)

-- an error of the reader's own, which it answers from then on
abbrev pub Stays : {T : Type 0} → Result T DecodeError → State → Type 0
Stays result new = IfErr result (λ e. new.failed ≡ Some e)

-- A call that takes no memory refuses by Malformed alone, unless the reader had failed before.
abbrev pub OnlyMalformed : {T : Type 0} → State → Result T DecodeError → Type 0
OnlyMalformed old result = IsNone old.failed → IfErr result (λ e. e ≡ Malformed)

-- A call that takes memory refuses by Malformed or for want of memory alone, unless the reader had
-- failed before.
abbrev pub OnlyMalformedOrMemory : {T : Type 0} → State → Result T DecodeError → Type 0
OnlyMalformedOrMemory old result = IsNone old.failed
    → IfErr result (λ e. (e ≡ Malformed) ⊎ (e ≡ Memory))

-- what is wrong with a reader that has to be at its end
abbrev pub unfinished : Option DecodeError → List ℕ → Option DecodeError
unfinished (Some e) rest = Some e
unfinished None [] = None
unfinished None (b ∷ rest) = Some Malformed

-- the value, unless there is an error
abbrev pub or_error : {T : Type 0} → T → Option DecodeError → Result T DecodeError
or_error t None = Ok t
or_error t (Some e) = Err e

-- What the call that opened a value answers: what the closure answered, if that is an error, or if
-- its reader has not failed then and nothing is left; else the error of the reader, or Malformed.
abbrev pub closed : {T : Type 0} → Result T DecodeError → State → Result T DecodeError
closed (Err e) after = Err e
closed (Ok t) after = or_error t (unfinished after.failed after.rest)

-- What a call answers after its closure: what the closure answered, if that is an error, or if the
-- reader has not failed then; else the error of the reader. Something may be left.
abbrev pub not_failed : {T : Type 0} → Result T DecodeError → State → Result T DecodeError
not_failed (Err e) after = Err e
not_failed (Ok t) after = or_error t after.failed

-- the contents of the value in front, or none
abbrev pub OpenedAt : {T : Type 0} → (T → List ℕ) → Option (List ℕ × List ℕ) → Result T DecodeError
    → State → Type 0
OpenedAt view found (Ok t) new = (found ≡ Some (view t, new.rest)) × (new.failed ≡ None)
OpenedAt view found (Err e) new = (found ≡ None) × (e ≡ Malformed) × (new.failed ≡ Some Malformed)

-- what opening answers
abbrev pub Opened : {T : Type 0} → ℕ → (T → List ℕ) → State → Result T DecodeError → State → Type 0
Opened tag view old result new =
    (new.mode ≡ old.mode)
    × MatchOption old.failed (OpenedAt view (value_at tag old.mode old.rest) result new)
    (λ e. FailsAgain e result new)

-- What a call answers and leaves, where this is the answer about the contents of a value and rest
-- follows it: the same answer, and rest is left, or its error again, from then on too.
abbrev pub Left : {T : Type 0} → Result T DecodeError → List ℕ → Result T DecodeError → State
    → Type 0
Left (Ok t) rest result new = (result ≡ Ok t) × (new.rest ≡ rest) × (new.failed ≡ None)
Left (Err e) rest result new = FailsAgain e result new

-- The value in front, which has this tag, is opened: step is a call of the closure on a reader of
-- its contents, what `closed` makes of its answer is answered, and what follows the value is left.
-- Where no such value stands there, the answer is Malformed. A reader that has failed answers its
-- error again, and each error is answered from then on.
abbrev pub Opens : {T : Type 0} → ℕ → (State → Result T DecodeError → State → Type 0) → State
    → Result T DecodeError → State → Type 0
Opens {T} tag step old result new =
    (new.mode ≡ old.mode)
    × MatchOption old.failed
    (MatchOption (value_at tag old.mode old.rest)
    ((result ≡ Err Malformed) × (new.failed ≡ Some Malformed))
    (λ v. (r : Result T DecodeError) × (after : State) × step (fresh old.mode v.0) r after
    × Left (closed r after) v.1 result new))
    (λ e. FailsAgain e result new)

-- the answer of a call that found the value which may be there
abbrev pub some_of_result : {T : Type 0} → Result T DecodeError → Result (Option T) DecodeError
some_of_result (Ok t) = Ok (Some t)
some_of_result (Err e) = Err e

-- The value in front is opened, as `Opens` says, where it has this tag. Where it has another one,
-- or where there is none, nothing is read, and the answer is None. A reader that has failed answers
-- its error again, from then on too.
abbrev pub OpensIfNext : {T : Type 0} → ℕ → (State → Result T DecodeError → State → Type 0) → State
    → Result (Option T) DecodeError → State → Type 0
OpensIfNext {T} tag step old result new =
    MatchOption old.failed
    (MatchBool (is_next tag old.rest)
    ((r : Result T DecodeError) × Opens tag step old r new × (result ≡ some_of_result r))
    ((result ≡ Ok None) × (new ≡ old)))
    (λ e. FailsAgain e result new × (new.mode ≡ old.mode))

-- what a loop has read, where p reads each
pub record ReadSoFar {X : Type 0} (p : Parser (Option X)) (front : List X)
    (begun now : State) : Type 0 where
  pub mode : now.mode ≡ begun.mode
  pub failed : now.failed ≡ begun.failed
  pub read : with_front front (many p begun.mode now.rest) ≡ many p begun.mode begun.rest

-- What a capture answers, where read is what the call answered and after what it left: what was
-- answered, and the octets that were taken. Where the call refused, its error is answered again;
-- where it did not, the capture refuses for want of memory alone. Each error is answered from then
-- on.
abbrev pub CapturedWith : {T : Type 0} → Result T DecodeError → State → State
    → Result (T × Kept) DecodeError → State
    → Type 0
CapturedWith read old after (Ok k) new =
    (read ≡ Ok k.0) × (k.1.octets ≡ taken old.rest after.rest) × (k.1.mode ≡ old.mode)
    × (new ≡ after)
CapturedWith (Ok t) old after (Err e) new = (e ≡ Memory) × (new.failed ≡ Some Memory)
    × (new.mode ≡ after.mode)
CapturedWith (Err d) old after (Err e) new = IsAgain d e × (new.failed ≡ Some e)
    × (new.mode ≡ after.mode)

-- What step answered and the octets that it took, or the error that `not_failed` makes of its
-- answer, or Memory. A reader that has failed answers its error again, and each error is answered
-- from then on.
abbrev pub CapturesWith : {T : Type 0} → (State → Result T DecodeError → State → Type 0) → State
    → Result (T × Kept) DecodeError → State → Type 0
CapturesWith {T} step old result new =
    MatchOption old.failed
    ((r : Result T DecodeError) × (after : State) × step old r after
    × CapturedWith (not_failed r after) old after result new)
    (λ e. FailsAgain e result new × (new.mode ≡ old.mode))

-- a capture, where the call answers nothing beside it
abbrev pub beside_nothing : Result Kept DecodeError → Result (Unit {0} × Kept) DecodeError
beside_nothing (Ok kept) = Ok (tt, kept)
beside_nothing (Err e) = Err e

-- the octets that step took, where it answers nothing
abbrev pub Captures : (State → Result (Unit {0}) DecodeError → State → Type 0) → State
    → Result Kept DecodeError → State → Type 0
Captures step old result new = CapturesWith step old (beside_nothing result) new

-- what a loop up to the end has read, where p reads each
pub record ReadUpTo {X : Type 0} (p : Parser X) (front : List X) (begun now : State) : Type 0 where
  pub mode : now.mode ≡ begun.mode
  pub failed : now.failed ≡ begun.failed
  pub read : with_front front (all_at p begun.mode now.rest) ≡ all_at p begun.mode begun.rest
