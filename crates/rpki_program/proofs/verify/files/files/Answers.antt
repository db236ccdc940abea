use Rattle.std.proofs.Common.{string_bytes, subst}
use Rattle.std.specs.Prelude.{IfOk}
use Rattle.rpki_cli.specs.Store.{Told}
use Rattle.rpki_program.specs.Verify.Files.{IsFilesReportOn}
use Rattle.rpki_program.proofs.Filing.{grounds-files, ungrounded-files}
use Rattle.rpki_program.proofs.verify.files.files.Goals as goal

pub returns-in-Err-grounds_of : goal.returns-in-Err-grounds_of
returns-in-Err-grounds_of g c =
    ungrounded-files (g.S.Store.told c.args.store.now) (g.Y.System.named c.args.system.now)
    c.args.request.now c.args.moment c.question_of-question.result c.in-Err-grounds_of.refusal
    (c.in-Ok.inputs, c.in-Ok.ensures.told, c.question_of-question.ensures)
    c.in-Err-grounds_of.ensures c.ungrounded-report.result c.ungrounded-report.ensures

pub returns : goal.returns
returns g c =
    let named = g.Y.System.named c.args.system.now in
    let grounds = c.in-Ok-grounds_of.grounds in
    grounds-files (g.S.Store.told c.args.store.now) named c.args.request.now c.args.moment
    c.question_of-question.result grounds
    (c.in-Ok.inputs, c.in-Ok.ensures.told, c.question_of-question.ensures)
    c.in-Ok-grounds_of.ensures c.read_object-report.result
    (subst (λ (t : Told). IfOk c.read_object-report.result (λ x. IsFilesReportOn t named
    c.args.request.now grounds (string_bytes x.out) x.status)) c.read_inputs.ensures.same
    c.read_object-report.ensures)
