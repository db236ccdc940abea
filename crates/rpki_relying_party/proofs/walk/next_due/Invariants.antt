-- Those that the loop has taken were passed over or left.
use Rattle.std.proofs.Common.{length}
use Rattle.rpki_relying_party.specs.Steps.{has_key, ArePassed}
use Rattle.rpki_relying_party.proofs.walk.next_due.Given as goal

abbrev pub invariant-loop-turn : goal.invariant-loop-turn
invariant-loop-turn g l =
    ArePassed (g.P.Places.key_of l.places) (has_key l.read) (has_key l.lacking) l.fn.unread.items
    l.unread.items l.fn.queue l.queue

abbrev pub decreases-loop-turn : goal.decreases-loop-turn
decreases-loop-turn g l = length l.queue
