use Rattle.rpki_program.proofs.Anchored.{unissued-none}
use Rattle.rpki_program.specs.Verify.Rta.{IsUnissued}
use Rattle.rpki_program.proofs.verify.rta.issued.Goals as goal

pub returns-in-Ok-grounds_of-clause-anchor : goal.returns-in-Ok-grounds_of-clause-anchor
returns-in-Ok-grounds_of-clause-anchor g c = (
  c.manner.result,
  c.question_of-question.result,
  (c.in-Ok.inputs, c.in-Ok.ensures.told, c.question_of-question.ensures),
  c.in-Ok-grounds_of.ensures,
)

pub returns-clause-none : goal.returns-clause-none
returns-clause-none g c =
    unissued-none (IsUnissued (g.S.Store.told c.args.store.now) c.args.moment c.args.under.now)
    c.in-Err-grounds_of.refusal _ _
    (λ m. (
      c.manner.result,
      c.question_of-question.result,
      (c.in-Ok.inputs, c.in-Ok.ensures.told, c.question_of-question.ensures),
      (c.in-Err-grounds_of.refusal, c.in-Err-grounds_of.ensures, m),
    ))
    c.in_ok-report-in-Err-grounds_of.ensures
