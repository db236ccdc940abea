-- What is still to be written.
use Rattle.std.proofs.Common.{◌≡◌, ℕ, List, ◌++◌, string_bytes}
use Rattle.std.specs.List.{flat_map}
use Rattle.rpki_show.specs.Grows.{AppendsItem}
use Rattle.rpki_show.proofs.texts.lines.push_each.Given as goal

-- the text, and the lines of the items that are still to come
abbrev pub invariant-loop-item : goal.invariant-loop-item
invariant-loop-item g l =
    (goal.iterator-loop-item g).can_next l.item-iterator
    × (goal.iterator-loop-item g).is_finite l.item-iterator
    × ((line : g.row.I-Shown.Denot → List ℕ)
    → AppendsItem (goal.F-post g l.fn.push) g.I.Listed.shown line
    → string_bytes l.text ++ flat_map line (g.I.Listed.rest l.item-iterator)
    ≡ string_bytes l.fn.text ++ flat_map line (g.I.Listed.rest l.fn.items))
