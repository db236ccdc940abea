use Rattle.std.proofs.lemmas.Result.{err_from_is_err_and}
use Rattle.rpki_der.specs.Read.Parse.{optional}
use Rattle.rpki_der.proofs.Reading.Within.{within-start, within-more, within-end, within-err}
use Rattle.rpki_der.proofs.read.constructed.Constructed.gather.Goals as goal

pub loop-items-preserved : goal.loop-items-preserved
loop-items-preserved g c =
    rw c.in_ok-push.ensures.items
    (within-more (optional g.T.ListItem.tag g.T.ListItem.at) (λ b. b) _ _ _ _ _ _
    c.loop-items.invariant c.in_ok-item.ensures.reads c.in-Some.is
    (rw c.in-Some.is at c.in_ok-item.ensures.shorter))

pub returns-in_err-item : goal.returns-in_err-item
returns-in_err-item g c =
    let p = err_from_is_err_and c.from_residual.result c.from_residual.ensures.1 in
    rw (p.1, p.2)
    (within-err (optional g.T.ListItem.tag g.T.ListItem.at) (λ b. b) (λ v. v) _ _ _ _
    c.take_opt_from.new.cons c.loop-items.invariant c.in_err-item.ensures.reads)

pub returns : goal.returns
returns g c =
    within-end (optional g.T.ListItem.tag g.T.ListItem.at) (λ b. b) (λ v. v) _ _ _
    c.loop-items.items.items _ c.loop-items.invariant c.in_ok-item.ensures.reads c.in_default.is

pub loop-items-init : goal.loop-items-init
loop-items-init g c = rw c.new-items.ensures.items (within-start _ _)
