use Rattle.std.proofs.Common.{◌≡◌, ◌∙◌, ap, refl, [], Some, append-nil, sym}
use Rattle.std.proofs.lemmas.List.{take_all}
use Rattle.csv.specs.Writing.{row_text, default_writer}
use Rattle.rpki_payloads.specs.Formats.Table.{IsReady, octets_written, header, record_text}
use Rattle.rpki_payloads.specs.Formats.Table.{table_text}
use Rattle.rpki_payloads.proofs.Recorded.{some-more, some-kept}
use Rattle.rpki_payloads.proofs.Rowed.{one-more}
use Rattle.rpki_payloads.proofs.formats.table.table_of.Goals as goal

pub loop-row-init : goal.loop-row-init
loop-row-init c =
    let from = c.from_writer-out.ensures in
    let start : IsReady c.from_writer-out.result = record {
      fields = from.fields;
      wrote = from.wrote;
      setup = from.cfg ∙ c.new.ensures;
    } in
    let nothing : octets_written c.from_writer-out.result ≡ Some [] =
    rw (from.wtr, c.new-2.ensures.items, from.empty) refl in
    let wrote = c.in_ok-write_header.ensures start in
    record {
      ready = wrote.0;
      written = some-more _ _ [] _ nothing wrote.1
          ∙ ap Some (sym (append-nil (row_text default_writer header)));
    }

pub loop-row-preserved : goal.loop-row-preserved
loop-row-preserved c =
    let wrote = c.in_ok-write_row.ensures c.loop-row.invariant.ready in
    record {
      ready = wrote.0;
      written = some-more _ _ _ _ c.loop-row.invariant.written wrote.1
          ∙ ap Some (one-more record_text c.args.rows.now c.loop-row.row-index
          c.row-item.result (row_text default_writer header) _ _ c.loop-row-test.true
          c.row-item.is refl refl);
    }

pub returns-in-Ok : goal.returns-in-Ok
returns-in-Ok c =
    some-kept _ _ _ c.loop-row.invariant.written c.in-Ok.ensures.ok
    ∙ ap table_text (take_all c.loop-row.row-index c.args.rows.now c.loop-row-test.false)
