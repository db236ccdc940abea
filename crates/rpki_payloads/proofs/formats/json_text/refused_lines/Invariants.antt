use Rattle.std.proofs.Common.{◌≡◌, take}
use Rattle.rpki_payloads.specs.Formats.Json.{refused_rows}
use Rattle.rpki_payloads.proofs.formats.json_text.refused_lines.Given as goal

abbrev pub invariant-loop-one : goal.invariant-loop-one
invariant-loop-one l = l.rows.items ≡ refused_rows (take l.one-index l.found)
