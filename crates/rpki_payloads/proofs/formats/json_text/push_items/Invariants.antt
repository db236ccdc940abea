use Rattle.std.proofs.Common.{◌≡◌, ℕ, List, ◌++◌, codes, string_bytes}
use Rattle.std.specs.List.{flat_map}
use Rattle.rpki_show.specs.Grows.{AppendsItem}
use Rattle.rpki_payloads.specs.Formats.Json.{items_text}
use Rattle.rpki_payloads.proofs.formats.json_text.push_items.Given as goal

-- the text, and what is written for the items that are still to come, each after a comma
abbrev pub invariant-loop-item : goal.invariant-loop-item
invariant-loop-item g l =
    (goal.iterator-loop-item g).can_next l.item-iterator
    × (goal.iterator-loop-item g).is_finite l.item-iterator
    × ((line : g.row.I-Shown.Denot → List ℕ)
    → AppendsItem (goal.F-post g l.fn.push) g.I.Listed.shown line
    → string_bytes l.text
    ++ flat_map (λ y. codes "," ++ line y) (g.I.Listed.rest l.item-iterator)
    ≡ string_bytes l.fn.text ++ items_text line (g.I.Listed.rest l.fn.items))
