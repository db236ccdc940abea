-- Without room none has a turn.
use Rattle.std.proofs.Common.{inl}
use Rattle.rpki_relying_party.specs.Steps.{has_key}
use Rattle.rpki_relying_party.proofs.Meeting.{passed-none}
use Rattle.rpki_relying_party.proofs.walk.next_turn.Goals as goal

pub returns-then-room-eq0 : goal.returns-then-room-eq0
returns-then-room-eq0 g c = (
  passed-none (g.P.Places.key_of c.args.places.now) (has_key c.args.read.now)
      (has_key c.args.lacking.now) c.args.unread.now.items c.args.queue.now,
  inl c.if-room-eq0.true,
)
