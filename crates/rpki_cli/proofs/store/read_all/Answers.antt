use Rattle.std.proofs.Common.{rules, arith}
use Rattle.std.proofs.lemmas.Grind.{common_steps}
use Rattle.rpki_cli.proofs.Reading.{one-more, first-unreadable, some-read}
use Rattle.rpki_cli.proofs.store.read_all.Goals as goal

pub loop-name-preserved : goal.loop-name-preserved
loop-name-preserved g c =
    let i = c.loop-name.invariant in (
      search rules,
      one-more c.args.names.now c.loop-name.name-index _ _ _ _ c.loop-name-test.true i.1
          c.in-Ok.ensures.noted,
      search rules,
      grind (arith, common_steps),
    )

pub returns-then-is_err-clause-answer : goal.returns-then-is_err-clause-answer
returns-then-is_err-clause-answer g c =
    let i = c.loop-name.invariant in
    some-read (g.S.Store.told c.args.store.now) c.args.names.now c.loop-name.name-index
    c.loop-name.files.items _ _
    c.loop-name-test.true i.2 i.3
    (one-more c.args.names.now c.loop-name.name-index _ _ _ _ c.loop-name-test.true i.1
    c.in-Ok.ensures.noted)

pub returns-in-Err-Unreadable-clause-answer : goal.returns-in-Err-Unreadable-clause-answer
returns-in-Err-Unreadable-clause-answer g c =
    let i = c.loop-name.invariant in
    rw c.in-Err-Unreadable.field-0-is
    (first-unreadable (g.S.Store.told c.args.store.now)
    (g.S.Store.told c.loop-name.store)
    c.in-Err-Unreadable.field-0 c.in-Err-Unreadable.reason c.args.names.now
    c.loop-name.name-index _
    c.loop-name.files.items _ _
    c.loop-name-test.true i.2 i.3 i.0 c.in-Err-Unreadable.field-0-is
    c.in-Err-Unreadable.ensures.answer
    (one-more c.args.names.now c.loop-name.name-index _ _ _ _ c.loop-name-test.true i.1
    c.in-Err-Unreadable.ensures.noted))

pub returns-in-Err-Memory-clause-answer : goal.returns-in-Err-Memory-clause-answer
returns-in-Err-Memory-clause-answer g c =
    let i = c.loop-name.invariant in
    some-read (g.S.Store.told c.args.store.now) c.args.names.now c.loop-name.name-index
    c.loop-name.files.items _ _
    c.loop-name-test.true i.2 i.3
    (one-more c.args.names.now c.loop-name.name-index _ _ _ _ c.loop-name-test.true i.1
    c.in-Err-Memory.ensures.noted)
