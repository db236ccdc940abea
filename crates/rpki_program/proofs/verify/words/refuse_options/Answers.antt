use Rattle.std.proofs.Common.{All, List, subst}
use Rattle.std.proofs.lemmas.List.{take_all}
use Rattle.std.proofs.lemmas.List.Elements.{All-more}
use Rattle.rpki_program.specs.Verify.Requests.{IsOperand}
use Rattle.rpki_program.specs.declared.verify.items.Item.{Item}
use Rattle.rpki_program.proofs.verify.words.refuse_options.Goals as goal

pub loop-item-preserved : goal.loop-item-preserved
loop-item-preserved c =
    All-more IsOperand c.args.items.now c.loop-item.item-index c.item-item.result
    c.loop-item-test.true c.loop-item.invariant
    (subst IsOperand c.item-item.is c.in_ok-refuse_option.ensures)

pub returns : goal.returns
returns c = subst (λ (items : List Item). All IsOperand items)
    (take_all c.loop-item.item-index c.args.items.now c.loop-item-test.false) c.loop-item.invariant
