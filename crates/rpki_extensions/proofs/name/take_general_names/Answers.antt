use Rattle.std.proofs.Common.{Vec, Global}
use Rattle.std.proofs.lemmas.Result.{err_from_is_err_and}
use Rattle.rpki_der.proofs.Reading.UpToEnd.{up_to-more, up_to-smaller, up_to-end, up_to-err}
use Rattle.rpki_der.proofs.Reading.UpToEnd.{up_to-failed}
use Rattle.rpki_extensions.specs.declared.name.GeneralName.{GeneralName}
use Rattle.rpki_extensions.specs.Names.{general_name_at}
use Rattle.rpki_extensions.proofs.GeneralNames.Exact.{name-takes}
use Rattle.rpki_extensions.proofs.name.take_general_names.Goals as goal

pub returns-in_err-is_at_end : goal.returns-in_err-is_at_end
returns-in_err-is_at_end c =
    let p = err_from_is_err_and c.from_residual.result c.from_residual.ensures.1 in
    rw (p.1, p.2) (up_to-failed general_name_at (λ (v : Vec GeneralName Global). v.items) _ _ _ _
    c.is_at_end.new.self c.loop-names.invariant c.in_err-is_at_end.ensures.reads)

pub returns-in_err-name : goal.returns-in_err-name
returns-in_err-name c =
    let p = err_from_is_err_and c.from_residual-in_err-name.result
    c.from_residual-in_err-name.ensures.1 in
    rw (p.1, p.2) (up_to-err general_name_at name-takes (λ b. b)
    (λ (v : Vec GeneralName Global). v.items)
    c.loop-names.names.items c.args.cons.now c.loop-names.cons _ c.is_at_end.new.self _
    c.take_general_name.new.cons c.loop-names.invariant c.in_ok-is_at_end.ensures.reads
    c.if-not-branch.true c.in_err-name.ensures)

pub loop-names-smaller : goal.loop-names-smaller
loop-names-smaller c =
    up_to-smaller general_name_at name-takes (λ b. b) c.loop-names.cons _ c.is_at_end.new.self _
    c.take_general_name.new.cons c.in_ok-is_at_end.ensures.reads c.in_ok-name.ensures

pub loop-names-preserved : goal.loop-names-preserved
loop-names-preserved c =
    rw c.in_ok-push.ensures.items
    (up_to-more general_name_at name-takes (λ b. b) c.loop-names.names.items c.args.cons.now
    c.loop-names.cons _ c.is_at_end.new.self _ c.take_general_name.new.cons c.loop-names.invariant
    c.in_ok-is_at_end.ensures.reads c.in_ok-name.ensures)

pub returns : goal.returns
returns c =
    up_to-end general_name_at name-takes (λ (v : Vec GeneralName Global). v.items) c.args.cons.now
    c.loop-names.cons c.loop-names.names _ c.is_at_end.new.self c.loop-names.invariant
    c.in_ok-is_at_end.ensures.reads c.if-not-branch.false
