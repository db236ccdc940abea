-- What is found of octets that may begin with a multi-signed attestation.
use Rattle.std.specs.Prelude.{◌≡◌, ◌⊎◌, ℕ, List, Result, Ok, Err}
use Rattle.rpki_der.specs.declared.mode.Mode.TheVariants.{Der}
use Rattle.rpki_der.specs.Grammar.{HasNoFront}
use Rattle.rpki_der.specs.Read.Reads.{Refuses}
use Rattle.rpki_multi.specs.Attestation.{KeptWhole, RtaForm, Whole, whole_of}
use Rattle.rpki_show.specs.Texts.Rta.{attestation_text}
use Rattle.rpki_signed.specs.Check.{BeginsWith}
use Rattle.rpki_signed.specs.declared.check.CheckError.TheVariants.{Decode}
use Rattle.rpki_validation.specs.Attestation.{IsGrantedOn}
use Rattle.rpki_validation.specs.declared.grounds.Grounds.{Grounds}
use Rattle.rpki_validation.specs.declared.refusal.Refusal.{Refusal as Cause}
use Rattle.rpki_check.specs.Grounds.{AreGroundsOf, HasNoGrounds}
use Rattle.rpki_check.specs.Refusal.{IsToldAs}
use Rattle.rpki_check.specs.Report.{IsReported}
use Rattle.rpki_check.specs.declared.question.Question.{Question}
use Rattle.rpki_check.specs.declared.refusal.Refusal.{Refusal}
use Rattle.rpki_check.specs.declared.refusal.Refusal.TheVariants.{Check, Memory}

-- what is found on these grounds: an attestation that is granted and unrevoked, or why there is none
-- (`IsGrantedOn`), which C is told so
abbrev pub IsGrantFound : Grounds → List ℕ → Result KeptWhole Refusal → Type 0
IsGrantFound g octets (Ok k) = IsGrantedOn g octets (Ok k)
IsGrantFound g octets (Err refusal) =
    (cause : Cause) × IsGrantedOn g octets (Err cause) × IsToldAs cause refusal

-- A question has grounds, and this is found on them.
pub record IsGrantedIn (q : Question) (octets : List ℕ) (result : Result KeptWhole Refusal)
    : Type 0 where
  pub grounds : Grounds
  pub are : AreGroundsOf q grounds
  pub found : IsGrantFound grounds octets result

-- what is found in answer to a question: that it has no grounds, or what is found on them
abbrev pub IsAttestationFound : Question → List ℕ → Result KeptWhole Refusal → Type 0
IsAttestationFound q octets result =
    ((refusal : Refusal) × HasNoGrounds q refusal × (result ≡ Err refusal))
    ⊎ IsGrantedIn q octets result

-- the lines of an attestation
abbrev pub lines_of : KeptWhole → List ℕ
lines_of k = attestation_text k.content

-- What a call leaves that asks about the attestation at the front of octets: what is found of it.
abbrev pub IsAttestationSaid : Question → List ℕ → List ℕ → List ℕ → ℕ → ℕ → Type 0
IsAttestationSaid q octets old new len status = (found : Result KeptWhole Refusal)
    × IsAttestationFound q octets found × IsReported lines_of found old new len status

-- what is read of octets: the attestation that they begin with, or that there is none, unless memory
-- ran out
abbrev pub IsAttestationRead : List ℕ → Result KeptWhole Refusal → Type 0
IsAttestationRead octets (Ok k) = BeginsWith (RtaForm Der) octets (λ (r : Whole). whole_of k ≡ r)
IsAttestationRead octets (Err (Check (Decode fault))) = Refuses fault (HasNoFront (RtaForm Der) octets)
IsAttestationRead octets (Err Memory) = Unit {0}
IsAttestationRead octets (Err other) = ⊥

-- What a call leaves that shows the attestation at the front of octets.
abbrev pub IsAttestationShown : List ℕ → List ℕ → List ℕ → ℕ → ℕ → Type 0
IsAttestationShown octets old new len status = (read : Result KeptWhole Refusal)
    × IsAttestationRead octets read × IsReported lines_of read old new len status
