use Rattle.rpki_program.proofs.Splits.{begun, taken, closed, finished}
use Rattle.rpki_program.proofs.verify.items.items_of.Goals as goal

pub loop-at-init : goal.loop-at-init
loop-at-init c = begun _ _ c.new-items.ensures.items

pub loop-at-preserved : goal.loop-at-preserved
loop-at-preserved c =
    taken c.args.words.now c.loop-at.at _ _ _ _ c.in-Ok-Some.item c.loop-at-test.true
    (rw c.in-Ok-Some.field-0-is at c.in-Ok-Some.ensures.item) c.in_ok-push-in-Ok-Some.ensures.items
    c.loop-at.invariant

pub returns-in-Ok-None : goal.returns-in-Ok-None
returns-in-Ok-None c =
    closed c.args.words.now c.loop-at.at _ _ _ c.loop-at-test.true (rw c.in-Ok-None.field-0-is at c.in-Ok-None.ensures.item)
    c.in_ok-push_operands-in-Ok-None.ensures c.loop-at.invariant

pub returns : goal.returns
returns c = finished _ _ _ c.loop-at-test.false c.loop-at.invariant
