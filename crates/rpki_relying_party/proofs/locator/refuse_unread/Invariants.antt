-- Those so far are refused.
use Rattle.std.proofs.Common.{take}
use Rattle.rpki_relying_party.specs.Runs.{counted, KeepsAll}
use Rattle.rpki_relying_party.proofs.Leaving.{IsSeen}
use Rattle.rpki_relying_party.proofs.locator.refuse_unread.Given as goal

abbrev pub invariant-loop-left : goal.invariant-loop-left
invariant-loop-left l =
    KeepsAll (IsSeen (counted l.counts) (take l.left-index l.unread)) l.fn.found l.found
