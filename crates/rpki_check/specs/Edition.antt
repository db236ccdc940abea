-- What a manifest says of itself: its number, and of which moments it is.
use Rattle.std.specs.Prelude.{◌≡◌, ◌⊎◌, ℕ, List, [], Result, Ok, Err}
use Rattle.rpki_der.specs.declared.mode.Mode.TheVariants.{Der}
use Rattle.rpki_basics.specs.Moment.{stamp}
use Rattle.rpki_basics.specs.Serial.{serial_text}
use Rattle.rpki_files.specs.Manifest.{Manifest, ManifestForm}
use Rattle.rpki_files.specs.Manifest.Checks.{manifest_kind}
use Rattle.rpki_check.specs.Grounds.{manner_in}
use Rattle.rpki_check.specs.Numbers.{no_memory, refusal_number}
use Rattle.rpki_check.specs.Object.{IsFound}
use Rattle.rpki_check.specs.Room.{IsInRoom}
use Rattle.rpki_check.specs.declared.edition.Edition.{Edition}
use Rattle.rpki_check.specs.declared.question.Question.{Question}
use Rattle.rpki_check.specs.declared.refusal.Refusal.{Refusal}

-- the moments of a manifest, as numbers that grow with time
abbrev pub edition_of : Manifest → Edition
edition_of m = record { this_update = stamp m.this_update; next_update = stamp m.next_update }

-- What a call leaves where this is found: its status, with the moments and the number in lower
-- hexadecimal, or with none where there is none; or that memory ran out.
abbrev pub IsEditionPut : Result Manifest Refusal → Edition → Edition → List ℕ → List ℕ → ℕ → ℕ
    → Type 0
IsEditionPut (Ok m) before after old new len status =
    ((status ≡ no_memory) × (after ≡ before) × IsInRoom [] old new len)
    ⊎ ((status ≡ 0) × (after ≡ edition_of m) × IsInRoom (serial_text m.number) old new len)
IsEditionPut (Err refusal) before after old new len status =
    (status ≡ refusal_number refusal) × (after ≡ before) × IsInRoom [] old new len

-- What a call leaves that asks for what the manifest at the front of octets says of itself.
abbrev pub IsEditionCall : Question → List ℕ → Edition → Edition → List ℕ → List ℕ → ℕ → ℕ → Type 0
IsEditionCall q object before after old new len status = (found : Result Manifest Refusal)
    × IsFound manifest_kind (ManifestForm (manner_in q).names Der) q object found
    × IsEditionPut found before after old new len status
