use Rattle.std.proofs.Common.{string_bytes}
use Rattle.rpki_program.proofs.Checking.{refused-lines}
use Rattle.rpki_program.proofs.verify.check.unissued.Goals as goal

pub returns : goal.returns
returns c =
    refused-lines c.line_of.result c.args.request.now.json c.args.request.now.files.items
    (string_bytes c.in_ok-cause.cause) c.if-request.false c.in_ok-cause.ensures.refused
    c.line_of.ensures
