-- One branch more has none.
use Rattle.std.proofs.Common.{arith}
use Rattle.rpki_relying_party.proofs.Waiting.{none-next}
use Rattle.rpki_relying_party.proofs.queue.take_any.Goals as goal

pub loop-branch-preserved : goal.loop-branch-preserved
loop-branch-preserved g c =
    let n = none-next c.args.branches.now.items c.loop-branch.branches.items
    c.take_at.new.branches.items c.loop-branch.branch
    (omega (arith, c.loop-branch-test.true, c.len-branch-end.ensures))
    c.loop-branch.invariant.same c.loop-branch.invariant.none c.in_default.ensures in
    record { same = n.0; none = n.1 }
