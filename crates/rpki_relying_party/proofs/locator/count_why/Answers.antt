-- One place more is counted.
use Rattle.std.proofs.Common.{arith}
use Rattle.rpki_relying_party.specs.Runs.{count_for}
use Rattle.rpki_relying_party.proofs.Leaving.{counts-fit, counts-next}
use Rattle.rpki_relying_party.proofs.locator.count_why.Goals as goal

pub count_left-requires : goal.count_left-requires
count_left-requires c =
    counts-fit c.args.unread.now c.loop-left.left-index c.args.why (count_for c.loop-left.counts)
    c.loop-left.invariant (omega arith)

pub loop-left-preserved : goal.loop-left-preserved
loop-left-preserved c =
    counts-next c.args.unread.now c.loop-left.left-index c.args.why (count_for c.loop-left.counts)
    c.loop-left.invariant (omega arith) c.left-item.result c.left-item.is
    (count_for c.count_left.new.counts) c.in_ok-count_left.ensures
