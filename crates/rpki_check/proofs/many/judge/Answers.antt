use Rattle.std.proofs.Common.{ℕ, List, inr, refl, subst}
use Rattle.std.specs.List.{AllZip}
use Rattle.rpki_check.specs.Many.{IsStatusOn}
use Rattle.rpki_check.specs.Room.{IsInRoom}
use Rattle.rpki_validation.specs.declared.question.Manner.{Manner}
use Rattle.rpki_check.proofs.many.judge.Goals as goal

pub returns-in-Ok-statuses : goal.returns-in-Ok-statuses
returns-in-Ok-statuses c = inr (inr (
  c.in-Ok-statuses.statuses.items,
  record {
    grounds = c.in-Ok.grounds;
    are = c.in-Ok.ensures;
    each =
        subst (λ (m : Manner). AllZip (IsStatusOn m c.in-Ok.grounds) c.args.objects.now
        c.in-Ok-statuses.statuses.items) c.manner_of.ensures c.in-Ok-statuses.ensures;
  },
  refl,
  subst (λ (statuses : List ℕ). IsInRoom statuses c.args.room.now c.put-in-Ok-statuses.new.room
      c.put-in-Ok-statuses.new.len) c.deref.ensures.value c.put-in-Ok-statuses.ensures,
))
