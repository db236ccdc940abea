use Rattle.rpki_tal.proofs.LineFacts.{first-is}
use Rattle.rpki_tal.proofs.lines.take_line.Goals as goal

pub returns-clause-line : goal.returns-clause-line
returns-clause-line c =
    first-is c.args.text.now c.in_ok-line.line.now c.in_ok-line.rest.now c.without_cr.result.now
    c.in_ok-line.ensures.line.0 c.in_ok-line.ensures.line.1 c.without_cr.ensures
