use Rattle.std.proofs.lemmas.Result.{err_from_is_err_and}
use Rattle.rpki_lists.proofs.Lists.{said-no, said-yes}
use Rattle.rpki_lists.proofs.Counting.{count-step, count-fails, count-end}
use Rattle.rpki_lists.proofs.rule.count_by.Goals as goal

pub returns-in_err-pass : goal.returns-in_err-pass
returns-in_err-pass g c =
    let p = err_from_is_err_and c.from_residual.result c.from_residual.ensures.1 in
    rw p.1 (count-fails g.R.EntryKind.EntryKind.entry_at g.R.Rule.after
    g.met.R.EntryKind.EntryKind.shrinks c.args.rule
    c.args.octets.now c.loop-reader.rule c.pass.new.self c.loop-reader.reader c.loop-reader.count
    c.pass.result _ c.pass.new.reader c.loop-reader.invariant
    (said-no c.is_empty.result c.is_empty.ensures c.loop-reader-test.true) c.in_err-pass.was
    c.pass.ensures)

pub loop-reader-preserved : goal.loop-reader-preserved
loop-reader-preserved g c =
    count-step g.R.EntryKind.EntryKind.entry_at g.R.Rule.after g.met.R.EntryKind.EntryKind.shrinks
    c.args.rule
    c.args.octets.now c.loop-reader.rule c.pass.new.self c.loop-reader.reader c.loop-reader.count
    c.pass.result tt c.pass.new.reader c.loop-reader.invariant c.in_ok-pass.was c.pass.ensures

pub returns : goal.returns
returns g c =
    count-end g.R.EntryKind.EntryKind.entry_at g.R.Rule.after g.met.R.EntryKind.EntryKind.shrinks
    c.args.rule
    c.args.octets.now c.loop-reader.rule c.loop-reader.reader c.loop-reader.count
    c.loop-reader.invariant
    (said-yes c.is_empty.result c.is_empty.ensures c.loop-reader-test.false)
