-- The refusal stands at its line.
use Rattle.std.proofs.Common.{Some}
use Rattle.std.proofs.lemmas.Map.Text.{btree_map_updates_text}
use Rattle.std.specs.String.{string_bytes}
use Rattle.rpki_relying_party.proofs.Kept.{puts-refusal, lines-stay}
use Rattle.rpki_relying_party.proofs.refusals.keep_refusal.Goals as goal

pub returns-in-Ok-insert-clause-keeps : goal.returns-in-Ok-insert-clause-keeps
returns-in-Ok-insert-clause-keeps c =
    let line = string_bytes c.in-Ok.line in
    let old = c.args.refusals.now in
    let new = c.insert.new.self in
    puts-refusal c.args.refusal line old new c.in-Ok.ensures
    (btree_map_updates_text line old new (Some c.args.refusal) c.in-Ok-insert.ensures.updates)

pub returns-in-Ok-insert-clause-lines : goal.returns-in-Ok-insert-clause-lines
returns-in-Ok-insert-clause-lines c =
    lines-stay c.args.refusal c.args.refusals.now c.insert.new.self
    (returns-in-Ok-insert-clause-keeps c)
