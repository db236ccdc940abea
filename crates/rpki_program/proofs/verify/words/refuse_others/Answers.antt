use Rattle.std.proofs.Common.{All, List, subst}
use Rattle.std.proofs.lemmas.List.{take_all}
use Rattle.std.proofs.lemmas.List.Elements.{All-more}
use Rattle.rpki_program.specs.Verify.Requests.{IsTaken}
use Rattle.rpki_program.specs.declared.verify.items.Item.{Item}
use Rattle.rpki_program.proofs.verify.words.refuse_others.Goals as goal

pub loop-item-preserved : goal.loop-item-preserved
loop-item-preserved c =
    All-more (IsTaken c.args.command) c.args.items.now c.loop-item.item-index c.item-item.result
    c.loop-item-test.true c.loop-item.invariant
    (subst (IsTaken c.args.command) c.item-item.is c.in_ok-refuse_other.ensures)

pub returns : goal.returns
returns c = subst (λ (items : List Item). All (IsTaken c.args.command) items)
    (take_all c.loop-item.item-index c.args.items.now c.loop-item-test.false) c.loop-item.invariant
