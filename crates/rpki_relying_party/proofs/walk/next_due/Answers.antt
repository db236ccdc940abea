-- One more is passed over or left, or has its turn.
use Rattle.std.proofs.Common.{ℕ, List, ◌∷◌, length, sym, arith, ap, subst, ◌∙◌}
use Rattle.std.proofs.lemmas.Bool.{true≢false}
use Rattle.std.proofs.lemmas.List.Sorted.{length_permutation}
use Rattle.std.specs.Prelude.{IsTrue}
use Rattle.rpki_relying_party.specs.Steps.{has_key, ArePassed}
use Rattle.rpki_relying_party.proofs.Meeting.{passed-none, passed-then, passed-more}
use Rattle.rpki_relying_party.proofs.walk.next_due.Goals as goal
use Rattle.rpki_relying_party.proofs.walk.next_due.Goals.{else-not-is_read-via-then-not-is_read+else-not-contains}
use Rattle.rpki_relying_party.proofs.walk.next_due.Goals.{else-not-is_read-via-else-not-is_read}

pub loop-turn-init : goal.loop-turn-init
loop-turn-init g c =
    passed-none (g.P.Places.key_of c.args.places.now) (has_key c.args.read.now)
    (has_key c.args.lacking.now) c.args.unread.now.items c.args.queue.now

pub loop-turn-smaller : goal.loop-turn-smaller
loop-turn-smaller g c =
    omega (
      arith,
      length_permutation c.loop-turn.queue (c.in-Some.turn.place ∷ c.take.new.self)
          c.in-Some.ensures,
      ap (λ (q : List g.row.P-Place.Denot). length q) c.spend.ensures,
    )

pub loop-turn-preserved : goal.loop-turn-preserved
loop-turn-preserved g c =
    let key = g.P.Places.key_of c.args.places.now in
    let read = has_key c.args.read.now in
    let lacking = has_key c.args.lacking.now in
    subst (λ (q : List g.row.P-Place.Denot). ArePassed key read lacking c.args.unread.now.items
    c.pass_by.new.unread.items c.args.queue.now q) (sym c.spend.ensures)
    (passed-more key read lacking c.args.unread.now.items c.loop-turn.unread.items
    c.args.queue.now c.loop-turn.queue c.loop-turn.invariant c.in-Some.turn.place
    c.take.new.self c.in-Some.ensures c.contains-is_read.result
    (c.contains-is_read.ensures
    ∙ ap (λ (k : List ℕ). has_key c.args.read.now k) c.in_ok-key.ensures)
    (λ e. elim c.else-not-is_read.branch [
      | else-not-is_read-via-then-not-is_read+else-not-contains w ↦
          subst (λ (k : List ℕ). IsTrue (lacking k)) c.in_ok-key.ensures
          (sym w.contains.ensures ∙ w.if-not-contains.false)
      | else-not-is_read-via-else-not-is_read w ↦
          absurd (true≢false (sym w.if-not-is_read.false ∙ e))
    ])
    c.pass_by.new.unread.items c.in_ok-pass_by.ensures)

pub returns-then-not-contains : goal.returns-then-not-contains
returns-then-not-contains g c = record {
  passed = passed-then (g.P.Places.key_of c.args.places.now) (has_key c.args.read.now)
      (has_key c.args.lacking.now) c.args.unread.now.items c.loop-turn.unread.items
      c.args.queue.now c.loop-turn.queue c.loop-turn.invariant
      (c.in-Some.turn.place ∷ c.take.new.self) c.in-Some.ensures;
  its = c.in_ok-key.ensures;
  fresh = λ t. true≢false (sym t ∙ sym c.contains-is_read.ensures ∙ c.if-not-is_read.true);
  untried = λ t. true≢false (sym t ∙ sym c.contains.ensures ∙ c.if-not-contains.true);
}
