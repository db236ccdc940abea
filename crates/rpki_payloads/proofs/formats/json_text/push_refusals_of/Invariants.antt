use Rattle.std.proofs.Common.{◌≡◌, ◌++◌, map}
use Rattle.rpki_payloads.specs.Formats.Json.{refused_row, refused_under}
use Rattle.rpki_payloads.proofs.formats.json_text.push_refusals_of.Given as goal

-- the rows, and those of the refusals that are still to come
abbrev pub invariant-loop-refusal : goal.invariant-loop-refusal
invariant-loop-refusal l =
    l.rows.items ++ map (refused_row l.one.name) l.refusal-iterator
    ≡ l.fn.rows.items ++ refused_under l.one
