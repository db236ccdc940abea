use Rattle.std.proofs.Common.{◌≡◌, ◌++◌}
use Rattle.std.specs.BTreeMap.{values}
use Rattle.std.specs.Map.{values_of}
use Rattle.rpki_payloads.proofs.formats.joined.list_origins.Given as goal

-- the rows, and those that are still to come
abbrev pub invariant-loop-row : goal.invariant-loop-row
invariant-loop-row l = l.rows.items ++ values_of l.row-iterator ≡ values l.fn.joined
