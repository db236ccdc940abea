-- What waits stays.
use Rattle.std.proofs.Common.{ap, ◌∙◌}
use Rattle.rpki_relying_party.specs.Queue.{place_on}
use Rattle.rpki_relying_party.proofs.Waiting.{same-waiting}
use Rattle.rpki_relying_party.proofs.queue.raise.Goals as goal

pub returns-in_err-set_open : goal.returns-in_err-set_open
returns-in_err-set_open g c = c.set_open.ensures
    ∙ same-waiting c.args.branches.now.items c.args.at _ c.index_mut-branch.result.now
    (ap place_on c.index_mut-branch.ensures.value)

pub returns-in_err-set_open-2 : goal.returns-in_err-set_open-2
returns-in_err-set_open-2 g c = c.set_open-2.ensures ∙ (c.set_open.ensures
    ∙ same-waiting c.args.branches.now.items c.args.at _ c.index_mut-branch.result.now
    (ap place_on c.index_mut-branch.ensures.value))

pub returns : goal.returns
returns g c = c.set_open-2.ensures ∙ (c.set_open.ensures
    ∙ same-waiting c.args.branches.now.items c.args.at _ c.index_mut-branch.result.now
    (ap place_on c.index_mut-branch.ensures.value))
