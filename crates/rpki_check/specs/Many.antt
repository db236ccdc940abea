-- What a call says of many objects.
use Rattle.std.specs.Prelude.{◌≡◌, ◌⊎◌, ℕ, List, [], Result}
use Rattle.std.specs.List.{AllZip}
use Rattle.rpki_der.specs.declared.mode.Mode.{Mode}
use Rattle.rpki_sigobj.specs.Object.{mode_of}
use Rattle.rpki_sigobj.specs.Signed.Kind.{ObjectKind}
use Rattle.rpki_multi.specs.Attestation.{KeptWhole}
use Rattle.rpki_validation.specs.declared.grounds.Grounds.{Grounds}
use Rattle.rpki_validation.specs.declared.question.Manner.{Manner}
use Rattle.rpki_check.specs.Attestation.{IsGrantFound}
use Rattle.rpki_check.specs.Grounds.{AreGroundsOf, HasNoGrounds, manner_in}
use Rattle.rpki_check.specs.Kinds.{AsksFor, OfAsked}
use Rattle.rpki_check.specs.Numbers.{no_kind, no_memory, refusal_number, status_of}
use Rattle.rpki_check.specs.Object.{IsFoundOn}
use Rattle.rpki_check.specs.Room.{IsInRoom}
use Rattle.rpki_check.specs.declared.kinds.Asked.{Asked}
use Rattle.rpki_check.specs.declared.many.Object.{Object}
use Rattle.rpki_check.specs.declared.question.Question.{Question}
use Rattle.rpki_check.specs.declared.refusal.Refusal.{Refusal}

-- the status of an object of this kind on these grounds: that of what is found
abbrev pub IsStatusAs : {X : Type 0} → ObjectKind X → (List ℕ → X → Type 0) → Mode → Grounds
    → List ℕ → ℕ → Type 0
IsStatusAs {X} kind form mode g octets status = (found : Result X Refusal)
    × IsFoundOn kind form mode g octets found × (status ≡ status_of found)

-- the status of an attestation on these grounds: that of what is found
abbrev pub IsGrantStatus : Grounds → List ℕ → ℕ → Type 0
IsGrantStatus g octets status = (found : Result KeptWhole Refusal)
    × IsGrantFound g octets found × (status ≡ status_of found)

-- the status of an object: that of what its number asks for, or that there is no such kind, unless
-- memory ran out
abbrev pub IsStatusOn : Manner → Grounds → Object → ℕ → Type 0
IsStatusOn m g o status =
    ((status ≡ no_memory)
    ⊎ ((status ≡ no_kind) × ((a : Asked) → AsksFor (mode_of m.strict) o.kind o.octets.now a → ⊥)))
    ⊎ ((a : Asked) × AsksFor (mode_of m.strict) o.kind o.octets.now a
    × OfAsked m a (λ X asked form lines.
    IsStatusAs asked form (mode_of m.strict) g o.octets.now status)
    (IsGrantStatus g o.octets.now status))

-- A question has grounds, and these are the statuses of objects on them, one each, in their order.
pub record AreJudged (q : Question) (objects : List Object) (statuses : List ℕ) : Type 0 where
  pub grounds : Grounds
  pub are : AreGroundsOf q grounds
  pub each : AllZip (IsStatusOn (manner_in q) grounds) objects statuses

-- What a call leaves that asks about objects: 0 and their statuses, or why the question has no
-- grounds, unless memory ran out.
abbrev pub IsManyCall : Question → List Object → List ℕ → List ℕ → ℕ → ℕ → Type 0
IsManyCall q objects old new count status =
    ((status ≡ no_memory) × IsInRoom [] old new count)
    ⊎ (((refusal : Refusal) × HasNoGrounds q refusal × (status ≡ refusal_number refusal)
    × IsInRoom [] old new count)
    ⊎ ((statuses : List ℕ) × AreJudged q objects statuses × (status ≡ 0)
    × IsInRoom statuses old new count))
