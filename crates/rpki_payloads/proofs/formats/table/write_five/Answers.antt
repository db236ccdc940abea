use Rattle.std.proofs.Common.{◌≢◌, ◌∙◌, rules}
use Rattle.csv.specs.Writing.{writer_setup}
use Rattle.csv.specs.declared.writer.QuoteStyle.TheVariants as style
use Rattle.rpki_payloads.proofs.formats.table.write_five.Goals as goal

pub returns-in-Ok : goal.returns-in-Ok
returns-in-Ok c = λ ready.
    let plain : (writer_setup c.args.out.now).style ≢ style.NonNumeric =
    rw ready.setup (λ e. cc e) in
    let wrote = c.in-Ok.ensures.bytes ready.fields ready.wrote plain in (
      record {
        fields = c.in-Ok.ensures.ended;
        wrote = c.in-Ok.ensures.clean;
        setup = c.in-Ok.ensures.setup ∙ ready.setup;
      },
      search rules,
    )
