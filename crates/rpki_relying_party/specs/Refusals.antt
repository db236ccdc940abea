-- Refusals by their lines.
use Rattle.std.specs.Prelude.{◌≡◌, ℕ, List, Some}
use Rattle.std.specs.BTreeMap.{BTreeMap, get_by_text}
use Rattle.std.specs.declared.alloc.Global.{Global}
use Rattle.std.specs.declared.string.String.{String}
use Rattle.rpki_relying_party.specs.Texts.{refusal_line}
use Rattle.rpki_relying_party.specs.declared.found.Refusal.{Refusal}

-- Each refusal stands at its line, and at no other.
abbrev pub StandAtTheirLines : BTreeMap (String Global) Refusal → Type 0
StandAtTheirLines refusals =
    (line : List ℕ) (r : Refusal) → get_by_text refusals line ≡ Some r → line ≡ refusal_line r

-- The refusal is kept at its line, and at each other line nothing has changed.
pub record KeepsRefusal (r : Refusal) (old new : BTreeMap (String Global) Refusal) : Type 0 where
  pub here : get_by_text new (refusal_line r) ≡ Some r
  pub others : (line : List ℕ) → ¬ (line ≡ refusal_line r)
      → get_by_text new line ≡ get_by_text old line
