use Rattle.std.proofs.Common.{[], ◌∷◌, refl}
use Rattle.rpki_cli.specs.Words.{texts}
use Rattle.rpki_program.proofs.Splits.{next-value}
use Rattle.rpki_program.proofs.verify.items.next_item.Goals as goal

pub returns-in-Whole-clause-item : goal.returns-in-Whole-clause-item
returns-in-Whole-clause-item c =
    (c.args.word.now ∷ [], texts c.args.rest.now, c.in-Whole.ensures, refl, refl)

pub returns-in-Some-clause-item : goal.returns-in-Some-clause-item
returns-in-Some-clause-item c =
    next-value _ _ _ _ _ c.in-Some.ensures.cases.0 c.in-Name.ensures.0 c.in-Name.ensures.1
