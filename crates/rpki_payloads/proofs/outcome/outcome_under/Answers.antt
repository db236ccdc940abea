use Rattle.std.proofs.Common.{List, inl, inr, subst}
use Rattle.rpki_relying_party.specs.Runs.{IsLeftRefusal, KeepsAll}
use Rattle.rpki_relying_party.specs.Walk.{Left}
use Rattle.rpki_relying_party.specs.declared.place.Place.{Place}
use Rattle.rpki_payloads.proofs.outcome.outcome_under.Goals as goal

pub returns-in-Ok-refuse_unread : goal.returns-in-Ok-refuse_unread
returns-in-Ok-refuse_unread g c = record {
  nothing = c.new-found.result;
  is_empty = c.new-found.ensures;
  run = c.run_under.new.found;
  unread = c.in-Ok.unread.items;
  reads = c.in-Ok.ensures.reads;
  sound = λ x l. elim (c.in-Ok.ensures.sound x l) [
    | inl old ↦ absurd (c.new-found.ensures x old)
    | inr said ↦ said
  ];
  complete = c.in-Ok.ensures.complete;
  refused = subst (λ (l : List (Left Place)). KeepsAll (IsLeftRefusal l) c.run_under.new.found
      c.refuse_unread.new.found) c.deref.ensures.value c.in-Ok-refuse_unread.ensures;
}
