-- What the calls leave that ask about objects of any kind.
use Rattle.std.specs.Prelude.{◌≡◌, ◌⊎◌, ℕ, List, []}
use Rattle.rpki_der.specs.declared.mode.Mode.{Mode}
use Rattle.rpki_sigobj.specs.Object.{mode_of}
use Rattle.rpki_validation.specs.declared.question.Manner.{Manner}
use Rattle.rpki_check.specs.Attestation.{IsAttestationSaid, IsAttestationShown}
use Rattle.rpki_check.specs.Grounds.{manner_in}
use Rattle.rpki_check.specs.Kinds.{AsksFor, OfAsked}
use Rattle.rpki_check.specs.Numbers.{no_kind, no_memory}
use Rattle.rpki_check.specs.Report.{IsSaid, IsShown}
use Rattle.rpki_check.specs.Room.{IsInRoom}
use Rattle.rpki_check.specs.declared.kinds.Asked.{Asked}
use Rattle.rpki_check.specs.declared.question.Question.{Question}

-- what a call leaves where a number asks for nothing, or memory ran out
abbrev pub IsKindless : Mode → ℕ → List ℕ → List ℕ → List ℕ → ℕ → ℕ → Type 0
IsKindless mode number octets old new len status =
    ((status ≡ no_memory)
    ⊎ ((status ≡ no_kind) × ((a : Asked) → AsksFor mode number octets a → ⊥)))
    × IsInRoom [] old new len

-- What a call leaves that asks about the object at the front of octets: what is said of one of the
-- kind that its number asks for, if there is one.
abbrev pub IsObjectCall : Question → ℕ → List ℕ → List ℕ → List ℕ → ℕ → ℕ → Type 0
IsObjectCall q number octets old new len status =
    IsKindless (mode_of (manner_in q).strict) number octets old new len status
    ⊎ ((a : Asked) × AsksFor (mode_of (manner_in q).strict) number octets a
    × OfAsked (manner_in q) a (λ X asked form lines.
    IsSaid asked form lines q octets old new len status)
    (IsAttestationSaid q octets old new len status))

-- What a call leaves that shows the object at the front of octets, without a check.
abbrev pub IsShowCall : Manner → ℕ → List ℕ → List ℕ → List ℕ → ℕ → ℕ → Type 0
IsShowCall m number octets old new len status =
    IsKindless (mode_of m.strict) number octets old new len status
    ⊎ ((a : Asked) × AsksFor (mode_of m.strict) number octets a
    × OfAsked m a (λ X asked form lines.
    IsShown asked form lines (mode_of m.strict) octets old new len status)
    (IsAttestationShown octets old new len status))
