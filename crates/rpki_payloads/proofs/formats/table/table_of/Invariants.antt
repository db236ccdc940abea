use Rattle.std.proofs.Common.{◌≡◌, Some, take}
use Rattle.rpki_payloads.specs.Formats.Table.{IsReady, octets_written, table_text}
use Rattle.rpki_payloads.proofs.formats.table.table_of.Given as goal

abbrev pub invariant-loop-row : goal.invariant-loop-row
invariant-loop-row l = record {
  ready : IsReady l.out;
  written : octets_written l.out ≡ Some (table_text (take l.row-index l.rows));
}
