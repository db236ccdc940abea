-- What was read, what was left, and what waits.
use Rattle.std.proofs.Common.{◌≡◌, ◌⊎◌, [], length}
use Rattle.rpki_relying_party.specs.Steps.{has_key, read_as, spent_for}
use Rattle.rpki_relying_party.proofs.Walking.{IsRun}
use Rattle.rpki_relying_party.proofs.walk.walk_from.Given as goal

-- while there is room
abbrev pub invariant-loop-unread : goal.invariant-loop-unread
invariant-loop-unread g l =
    IsRun (g.P.Places.tells l.places) (g.P.Places.costs l.places)
    (g.P.Places.exceeds l.places) (g.P.Places.key_of l.places)
    (g.P.Places.lists l.fn.found) (g.P.Places.lists l.found) (g.P.Places.has l.fn.found)
    (g.P.Places.has l.found) (read_as l.fn.start l.fn.told) l.limit l.room l.unread.items
    (has_key l.front.read) (has_key l.front.lacking) (spent_for l.front.spent) l.front.queue

abbrev pub decreases-loop-unread : goal.decreases-loop-unread
decreases-loop-unread g l = l.room

-- and then
abbrev pub invariant-loop-unread-2 : goal.invariant-loop-unread-2
invariant-loop-unread-2 g l = record {
  run : IsRun (g.P.Places.tells l.places) (g.P.Places.costs l.places)
      (g.P.Places.exceeds l.places) (g.P.Places.key_of l.places)
      (g.P.Places.lists l.fn.found) (g.P.Places.lists l.found) (g.P.Places.has l.fn.found)
      (g.P.Places.has l.found) (read_as l.fn.start l.fn.told) l.limit l.room l.unread.items
      (has_key l.front.read) (has_key l.front.lacking) (spent_for l.front.spent) l.front.queue;
  stop : (l.room ≡ 0) ⊎ (l.front.queue ≡ []);
}

abbrev pub decreases-loop-unread-2 : goal.decreases-loop-unread-2
decreases-loop-unread-2 g l = length l.front.queue
