-- What a call says of an object.
use Rattle.std.specs.Prelude.{◌≡◌, ◌⊎◌, ℕ, List, [], codes, Result, Ok, Err}
use Rattle.rpki_certs.specs.Issuer.{issuer_text}
use Rattle.rpki_der.specs.Grammar.{HasNoFront}
use Rattle.rpki_der.specs.Read.Reads.{Refuses}
use Rattle.rpki_der.specs.declared.mode.Mode.{Mode}
use Rattle.rpki_signed.specs.Check.{BeginsWith}
use Rattle.rpki_signed.specs.Text.{check_text}
use Rattle.rpki_signed.specs.declared.check.CheckError.TheVariants.{Decode}
use Rattle.rpki_sigobj.specs.Signed.Kind.{ObjectKind}
use Rattle.rpki_sigobj.specs.Signed.{ObjectForm, Whole}
use Rattle.rpki_check.specs.Numbers.{no_memory, status_of}
use Rattle.rpki_check.specs.Object.{IsFound}
use Rattle.rpki_check.specs.Room.{IsInRoom}
use Rattle.rpki_check.specs.declared.question.Question.{Question}
use Rattle.rpki_check.specs.declared.refusal.Refusal.{Refusal}
use Rattle.rpki_check.specs.declared.refusal.Refusal.TheVariants.{Check, Issuer, Memory}
use Rattle.rpki_check.specs.declared.refusal.Refusal.TheVariants.{NoList, NoMoment}

-- the text of a refusal
abbrev pub refusal_text : Refusal → List ℕ
refusal_text Memory = codes "out of memory"
refusal_text NoMoment = codes "no such moment"
refusal_text NoList = codes "no revocation list"
refusal_text (Check fault) = check_text fault
refusal_text (Issuer fault) = issuer_text fault

-- the text of what is found: the lines of a content, or why there is none
abbrev pub text_of : {X : Type 0} → (X → List ℕ) → Result X Refusal → List ℕ
text_of lines (Ok x) = lines x
text_of lines (Err refusal) = refusal_text refusal

-- What a call leaves where this is found: its status and its whole text, or that memory ran out.
abbrev pub IsReported : {X : Type 0} → (X → List ℕ) → Result X Refusal → List ℕ → List ℕ → ℕ → ℕ
    → Type 0
IsReported lines found old new len status =
    ((status ≡ no_memory) × IsInRoom [] old new len)
    ⊎ ((status ≡ status_of found) × IsInRoom (text_of lines found) old new len)

-- What a call leaves that asks about the object at the front of octets: what is found of it.
abbrev pub IsSaid : {X : Type 0} → ObjectKind X → (List ℕ → X → Type 0) → (X → List ℕ) → Question
    → List ℕ → List ℕ → List ℕ → ℕ → ℕ → Type 0
IsSaid {X} kind form lines q octets old new len status = (found : Result X Refusal)
    × IsFound kind form q octets found × IsReported lines found old new len status

-- ---- without a check

-- what is read of octets: the content of the object that they begin with, or that there is none,
-- unless memory ran out
abbrev pub IsObjectRead : {X : Type 0} → ObjectKind X → (List ℕ → X → Type 0) → Mode → List ℕ
    → Result X Refusal → Type 0
IsObjectRead {X} kind form mode octets (Ok x) =
    BeginsWith (ObjectForm kind.type form mode) octets (λ (o : Whole X). x ≡ o.content)
IsObjectRead kind form mode octets (Err (Check (Decode fault))) =
    Refuses fault (HasNoFront (ObjectForm kind.type form mode) octets)
IsObjectRead kind form mode octets (Err Memory) = Unit {0}
IsObjectRead kind form mode octets (Err other) = ⊥

-- What a call leaves that shows the object at the front of octets.
abbrev pub IsShown : {X : Type 0} → ObjectKind X → (List ℕ → X → Type 0) → (X → List ℕ) → Mode
    → List ℕ → List ℕ → List ℕ → ℕ → ℕ → Type 0
IsShown {X} kind form lines mode octets old new len status = (read : Result X Refusal)
    × IsObjectRead kind form mode octets read × IsReported lines read old new len status
