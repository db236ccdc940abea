-- One more waits.
use Rattle.std.proofs.Common.{ap, Some}
use Rattle.rpki_relying_party.proofs.Waiting.{on-ok, put-new}
use Rattle.rpki_relying_party.proofs.queue.put_below.Goals as goal

pub returns : goal.returns
returns g c = on-ok c.set_open.result (put-new c.args.branches.now.items
    c.push.new.self.items c.set_open.new.branches.items _ c.args.place c.in_ok-push.ensures.items
    (ap Some c.in_ok-new.ensures.ok) c.set_open.ensures)
