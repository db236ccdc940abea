-- What a validation run found.
use Rattle.std.specs.Prelude.{◌≡◌, ◌≤◌, ◌⊎◌, List, Some, All, Contains}
use Rattle.std.specs.BTreeMap.{get_by_text}
use Rattle.rpki_basics.specs.Moment.{stamp}
use Rattle.rpki_relying_party.specs.Payload.{held_in}
use Rattle.rpki_relying_party.specs.Texts.{refusal_line}
use Rattle.rpki_relying_party.specs.declared.found.Finding.{Finding}
use Rattle.rpki_relying_party.specs.declared.found.Finding.TheVariants as findings
use Rattle.rpki_relying_party.specs.declared.found.Found.{Found}
use Rattle.rpki_relying_party.specs.declared.found.Refusal.{Refusal}
use Rattle.rpki_relying_party.specs.declared.payload.Held.{Held}

-- The two findings say the same: a payload by the same object, though perhaps not for as long, or
-- that the same is refused for the same cause, though perhaps below another CA.
abbrev pub SaysLike : Finding → Finding → Type 0
SaysLike (findings.Payload x h) (findings.Payload y g) = (x ≡ y) × (h.object ≡ g.object)
SaysLike (findings.Refusal r) (findings.Refusal q) = (r.uri ≡ q.uri) × (r.cause ≡ q.cause)
SaysLike x y = ⊥

-- This was found: until then and by that object the payload is held, or the refusal is kept.
abbrev pub Lists : Found → Finding → Type 0
Lists found (findings.Payload x h) = held_in found.payloads x ≡ Some h
Lists found (findings.Refusal r) = get_by_text found.refusals.by_line (refusal_line r) ≡ Some r

-- The payload is held for as long, or a refusal with the same line is kept at this line.
abbrev pub HasAsLong : Found → Finding → Type 0
HasAsLong found (findings.Payload x h) =
    (k : Held) × (held_in found.payloads x ≡ Some k) × (stamp h.until ≤ stamp k.until)
HasAsLong found (findings.Refusal r) =
    (q : Refusal) × (get_by_text found.refusals.by_line (refusal_line r) ≡ Some q)
    × (refusal_line q ≡ refusal_line r)

-- The finding was put to what was found.
pub record KeepsFinding (x : Finding) (old new : Found) : Type 0 where
  pub lists : (y : Finding) → Lists new y → Lists old y ⊎ (x ≡ y)
  pub stays : (y : Finding) → HasAsLong old y → HasAsLong new y
  pub kept : HasAsLong new x

-- The findings were put to what was found.
pub record KeepsFindings (said : List Finding) (old new : Found) : Type 0 where
  pub lists : (y : Finding) → Lists new y → Lists old y ⊎ Contains said y
  pub stays : (y : Finding) → HasAsLong old y → HasAsLong new y
  pub kept : All (HasAsLong new) said
