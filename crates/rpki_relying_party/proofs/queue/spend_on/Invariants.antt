-- What waits stays.
use Rattle.std.proofs.Common.{◌≡◌}
use Rattle.rpki_relying_party.specs.Queue.{waiting_in}
use Rattle.rpki_relying_party.proofs.queue.spend_on.Given as goal

abbrev pub invariant-loop : goal.invariant-loop
invariant-loop g l = waiting_in l.branches.items ≡ waiting_in l.fn.branches.items
