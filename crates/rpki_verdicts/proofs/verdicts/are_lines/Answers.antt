use Rattle.rpki_verdicts.specs.Verdicts.{IsLine}
use Rattle.rpki_verdicts.proofs.Line.{digits_make_line, more}
use Rattle.rpki_verdicts.proofs.verdicts.are_lines.Goals as goal

pub loop-line-preserved : goal.loop-line-preserved
loop-line-preserved c =
    more IsLine c.args.lines.now c.loop-line.line-index c.loop-line-test.true
    c.loop-line.invariant
    (digits_make_line _ (c.told-lines c.loop-line.line-index c.loop-line-test.true)
    (c.is_line.ensures.0 c.if-not-is_line.false))
