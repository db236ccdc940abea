use Rattle.std.proofs.Common.{Vec, Global}
use Rattle.std.proofs.lemmas.List.Elements.{All-push}
use Rattle.std.proofs.lemmas.Result.{err_from_is_err_and}
use Rattle.rpki_der.proofs.Reading.UpToEnd.{up_to-more, up_to-smaller, up_to-end, up_to-err}
use Rattle.rpki_der.proofs.Reading.UpToEnd.{up_to-failed}
use Rattle.rpki_resources.proofs.list.take_list.Goals as goal

pub returns-in_err-is_at_end-clause-reads : goal.returns-in_err-is_at_end-clause-reads
returns-in_err-is_at_end-clause-reads g c =
    let p = err_from_is_err_and c.from_residual.result c.from_residual.ensures.1 in
    rw (p.1, p.2) (up_to-failed (g.T.Listed.parser c.args.family)
    (λ (v : Vec _ Global). v.items) _ _ _ _ c.is_at_end.new.self
    c.loop-list.invariant.read c.in_err-is_at_end.ensures.reads)

pub returns-in_err-one-clause-reads : goal.returns-in_err-one-clause-reads
returns-in_err-one-clause-reads g c =
    let p = err_from_is_err_and c.from_residual-in_err-one.result
    c.from_residual-in_err-one.ensures.1 in
    rw (p.1, p.2) (up_to-err (g.T.Listed.parser c.args.family)
    (λ mode. record { at = c.requires mode }) (λ b. b)
    (λ (v : Vec _ Global). v.items)
    c.loop-list.list.items c.args.cons.now c.loop-list.cons _ c.is_at_end.new.self _
    c.take_one.new.cons
    c.loop-list.invariant.read c.in_ok-is_at_end.ensures.reads c.if-not-branch.true
    c.in_err-one.ensures.reads)

pub loop-list-smaller : goal.loop-list-smaller
loop-list-smaller g c =
    up_to-smaller (g.T.Listed.parser c.args.family)
    (λ mode. record { at = c.requires mode })
    (λ b. b) c.loop-list.cons _ c.is_at_end.new.self _ c.take_one.new.cons
    c.in_ok-is_at_end.ensures.reads c.in_ok-one.ensures.reads

pub loop-list-preserved : goal.loop-list-preserved
loop-list-preserved g c = record {
  read = rw c.in_ok-push.ensures.items
      (up_to-more (g.T.Listed.parser c.args.family)
      (λ mode. record { at = c.requires mode })
      (λ b. b) c.loop-list.list.items c.args.cons.now
      c.loop-list.cons _ c.is_at_end.new.self _ c.take_one.new.cons c.loop-list.invariant.read
      c.in_ok-is_at_end.ensures.reads c.in_ok-one.ensures.reads);
  known = rw c.in_ok-push.ensures.items
      (All-push g.T.Listed.known c.loop-list.list.items c.in_ok-one.one
      c.loop-list.invariant.known c.in_ok-one.ensures.known);
}

pub returns-clause-reads : goal.returns-clause-reads
returns-clause-reads g c =
    up_to-end (g.T.Listed.parser c.args.family)
    (λ mode. record { at = c.requires mode })
    (λ (v : Vec _ Global). v.items) c.args.cons.now c.loop-list.cons
    c.loop-list.list _ c.is_at_end.new.self c.loop-list.invariant.read
    c.in_ok-is_at_end.ensures.reads
    c.if-not-branch.false
