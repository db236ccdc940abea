-- What waits stays.
use Rattle.std.proofs.Common.{ap}
use Rattle.rpki_relying_party.specs.Queue.{place_on}
use Rattle.rpki_relying_party.proofs.Waiting.{same-waiting}
use Rattle.rpki_relying_party.proofs.queue.set_open.Goals as goal

pub returns-in_err-insert : goal.returns-in_err-insert
returns-in_err-insert g c = same-waiting c.args.branches.now.items c.args.parent _
    c.index_mut.result.now (ap place_on c.index_mut.ensures.value)

pub returns-in_ok-insert : goal.returns-in_ok-insert
returns-in_ok-insert g c = same-waiting c.args.branches.now.items c.args.parent _
    c.index_mut.result.now (ap place_on c.index_mut.ensures.value)

pub returns-else-is_open : goal.returns-else-is_open
returns-else-is_open g c = same-waiting c.args.branches.now.items c.args.parent _
    c.index_mut.result.now (ap place_on c.index_mut.ensures.value)
