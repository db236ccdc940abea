use Rattle.std.proofs.Common.{refl}
use Rattle.rpki_program.proofs.Paying.{report-limited}
use Rattle.rpki_program.proofs.verify.payloads.report_after.Goals as goal

pub returns : goal.returns
returns g c = (
  c.in_ok-report.report,
  report-limited (g.F.Folders.finds c.args.folders.now) c.args.request.now c.args.moment
      c.unwrap_or.result c.args.locators.now c.args.exceptions.now c.in_ok-report.report
      c.unwrap_or.ensures c.in_ok-report.ensures,
  refl,
  refl,
)
