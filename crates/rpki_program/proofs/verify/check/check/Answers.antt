use Rattle.std.proofs.Common.{List, subst, ℕ}
use Rattle.std.specs.Borrow.{Bor}
use Rattle.rpki_cli.specs.Answer.{run_of}
use Rattle.rpki_cli.specs.Store.{Told}
use Rattle.rpki_program.specs.Verify.Check.{IsRunOver}
use Rattle.rpki_program.proofs.Checking.{entries-noted, ungrounded-said, unread-said}
use Rattle.rpki_program.proofs.verify.check.check.Goals as goal

pub returns-in-Err-clause-checked : goal.returns-in-Err-clause-checked
returns-in-Err-clause-checked g c =
    unread-said (g.S.Store.told c.args.store.now) c.args.request.now c.args.moment _
    c.unread_report.result c.unread_report.ensures c.say.ensures.said

pub returns-in-Err-grounds_of-clause-checked : goal.returns-in-Err-grounds_of-clause-checked
returns-in-Err-grounds_of-clause-checked g c =
    ungrounded-said (g.S.Store.told c.args.store.now) c.args.request.now c.args.moment _
    c.question_of-question.result c.in-Err-grounds_of.refusal c.refused-report.result
    (c.in-Ok.inputs, c.in-Ok.ensures.told, c.question_of-question.ensures) c.in-Err-grounds_of.ensures
    c.refused-report.ensures c.say-in-Err-grounds_of.ensures.said

pub returns-clause-checked : goal.returns-clause-checked
returns-clause-checked g c =
    entries-noted (g.S.Store.told c.args.store.now) c.args.request.now c.args.moment
    (run_of g.O.Sink.taken g.O.Sink.failures c.args.out.now c.check_each-status.new.out
    g.E.Sink.taken g.E.Sink.failures c.args.err.now c.noted.new.err c.noted.result)
    c.question_of-question.result c.in-Ok-grounds_of.grounds c.check_each-status.result
    (c.in-Ok.inputs, c.in-Ok.ensures.told, c.question_of-question.ensures) c.in-Ok-grounds_of.ensures
    (subst (λ (fs : List (Bor (List ℕ))). IsRunOver (g.S.Store.told c.args.store.now)
    c.args.request.now c.question_of-question.result c.in-Ok-grounds_of.grounds fs
    (g.O.Sink.taken c.args.out.now) (g.O.Sink.taken c.check_each-status.new.out)
    c.check_each-status.result) c.deref.ensures.value
    (subst (λ (t : Told). IsRunOver t c.args.request.now c.question_of-question.result
    c.in-Ok-grounds_of.grounds c.deref.result.now
    (g.O.Sink.taken c.args.out.now) (g.O.Sink.taken c.check_each-status.new.out)
    c.check_each-status.result) c.read_inputs.ensures.same c.check_each-status.ensures.entries))
    c.noted.ensures.status
