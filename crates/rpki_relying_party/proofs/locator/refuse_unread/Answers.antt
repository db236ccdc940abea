-- One place more is refused.
use Rattle.std.proofs.Common.{arith}
use Rattle.rpki_relying_party.specs.Runs.{counted}
use Rattle.rpki_relying_party.proofs.Leaving.{seen-next}
use Rattle.rpki_relying_party.proofs.locator.refuse_unread.Goals as goal

pub loop-left-preserved : goal.loop-left-preserved
loop-left-preserved c =
    seen-next (counted c.in_ok-counts.counts) c.args.unread.now c.loop-left.left-index
    (omega arith) c.left-item.result c.left-item.is c.args.found.now c.loop-left.found
    c.refuse_left.new.found c.loop-left.invariant c.in_ok-refuse_left.ensures
