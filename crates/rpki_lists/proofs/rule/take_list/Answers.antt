use Rattle.std.proofs.lemmas.Result.{err_from_is_err_and}
use Rattle.rpki_der.specs.declared.error.ContentFault.TheVariants.{Text}
use Rattle.rpki_lists.specs.Rules.{admits}
use Rattle.rpki_lists.specs.declared.kind.Refused.{Refused}
use Rattle.rpki_lists.proofs.Taking.{take-err, take-ok, take-malformed, take-refused}
use Rattle.rpki_lists.proofs.rule.take_list.Goals as goal

pub returns-in_err-octets-clause-reads : goal.returns-in_err-octets-clause-reads
returns-in_err-octets-clause-reads g c =
    let p = err_from_is_err_and c.from_residual.result c.from_residual.ensures.1 in
    rw (p.1, p.2) (take-err g.R.EntryKind.EntryKind.entry_at
    (admits g.R.Rule.after c.args.rule) c.args.cons.now
    (λ l. l) _ c.take_primitive_if.new.self c.in_err-octets.ensures.reads)

pub returns-in-Ok-clause-reads : goal.returns-in-Ok-clause-reads
returns-in-Ok-clause-reads g c =
    take-ok g.R.EntryKind.EntryKind.entry_at (admits g.R.Rule.after c.args.rule) c.args.cons.now
    Refused
    c.in_ok-octets.octets c.in-Ok.count c.counted.result c.take_primitive_if.new.self
    c.in_ok-octets.ensures.reads (rw c.as_slice.ensures at c.in-Ok.ensures) c.counted.ensures

pub returns-in-Err-Malformed-clause-reads : goal.returns-in-Err-Malformed-clause-reads
returns-in-Err-Malformed-clause-reads g c =
    rw c.fail.ensures.new (take-malformed g.R.EntryKind.EntryKind.entry_at
    (admits g.R.Rule.after c.args.rule) c.args.cons.now Refused (λ l. l) c.in_ok-octets.octets
    c.in-Err-Malformed.field-0 c.take_primitive_if.new.self c.fail.result
    c.in_ok-octets.ensures.reads (rw c.as_slice.ensures at c.in-Err-Malformed.ensures)
    c.fail.ensures.again)

pub returns-clause-reads : goal.returns-clause-reads
returns-clause-reads g c =
    rw c.refuse_for.ensures.stays (take-refused g.R.EntryKind.EntryKind.entry_at
    (admits g.R.Rule.after c.args.rule) c.args.cons.now Refused (λ l. l) c.in_ok-octets.octets
    c.in-Err-For.field-0 c.take_primitive_if.new.self (Text c.in-Err-For.text.now)
    c.refuse_for.result
    c.in_ok-octets.ensures.reads (rw c.as_slice.ensures at c.in-Err-For.ensures)
    c.refuse_for.ensures.text)
