use Rattle.rpki_payloads.proofs.Saying.{say-all, say-more}
use Rattle.rpki_payloads.proofs.slurm.said.are_said.Goals as goal

pub loop-i-preserved : goal.loop-i-preserved
loop-i-preserved g c =
    say-more g.T.Said.says c.args.items.now c.args.found.now c.loop-i.i c.index-items-i.result
    c.index-found-i.result c.if-items-found.false c.loop-i-test.true c.index-items-i.is
    c.index-found-i.is c.loop-i.invariant (c.is_said.ensures c.if-not-is_said.false)

pub returns : goal.returns
returns g c = λ e.
    say-all g.T.Said.says c.args.items.now c.args.found.now c.loop-i.i c.if-items-found.false
    c.loop-i-test.false c.loop-i.invariant
