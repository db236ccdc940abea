use Rattle.rpki_program.proofs.Entries.{read-entry, skipped-entry, unreadable-entry}
use Rattle.rpki_program.proofs.verify.check.entry.entry_of.Goals as goal

pub returns-in_ok-why-in-None-clause-entry : goal.returns-in_ok-why-in-None-clause-entry
returns-in_ok-why-in-None-clause-entry g c =
    skipped-entry (g.S.Store.told c.args.store.now) c.args.request.now c.args.on.now.question.now
    c.args.on.now.grounds.now c.args.name.now c.in_ok-why-in-None.why
    c.in_ok-why-in-None.ensures.ok c.in-None.ensures c.denied.result
    c.denied.ensures.text c.denied.ensures.verdict

pub returns-in_ok-why-in-Err-Unreadable-clause-entry : goal.returns-in_ok-why-in-Err-Unreadable-clause-entry
returns-in_ok-why-in-Err-Unreadable-clause-entry g c =
    unreadable-entry (g.S.Store.told c.args.store.now) c.args.request.now
    c.args.on.now.question.now c.args.on.now.grounds.now c.args.name.now c.in_ok-why-in-Err-Unreadable.why
    c.in-Err-Unreadable.reason c.in_ok-why-in-Err-Unreadable.ensures
    (rw c.in-Err-Unreadable.field-0-is at c.in-Err-Unreadable.ensures.answer) c.denied-in-Err-Unreadable.result
    c.denied-in-Err-Unreadable.ensures.text c.denied-in-Err-Unreadable.ensures.verdict

pub returns-in-Ok-clause-entry : goal.returns-in-Ok-clause-entry
returns-in-Ok-clause-entry g c =
    read-entry (g.S.Store.told c.args.store.now) c.args.request.now c.args.on.now.question.now
    c.args.on.now.grounds.now c.args.name.now c.in-Some.kind c.in-Ok.octets c.in-Some.ensures
    c.in-Ok.ensures.answer c.judged_entry.result c.judged_entry.ensures
