-- The search ends at the first that fits, or has passed all that are left.
use Rattle.std.proofs.Common.{◌<◌, length, map, refl, sym, ap, ◌∙◌, subst, arith, false, true, set}
use Rattle.std.proofs.Common.{Some}
use Rattle.std.proofs.lemmas.Option.{slice_get_read, slice_get-get_or}
use Rattle.std.proofs.lemmas.List.{length-map}
use Rattle.rpki_paths.specs.Index.{listed, IsNamed}
use Rattle.rpki_paths.specs.Taking.{IsTakenAt, left_of, FitsNone}
use Rattle.rpki_paths.proofs.Taking.{IsFit, taking-none, taking-at, taking-within}
use Rattle.rpki_paths.proofs.Taking.{taking-more, taking-found, taking-done}
use Rattle.rpki_paths.proofs.Walking.{empty-from}
use Rattle.rpki_paths.proofs.pairs.take_first.Goals as goal

pub loop-first-init : goal.loop-first-init
loop-first-init g c =
    let held = g.X.Seeks.held in
    let id = g.X.Seeks.sought c.args.taker.now in
    let named : IsNamed (map held c.args.others.now) id c.named-left.result.now =
    subst (λ l. IsNamed (map held c.args.others.now) id l)
    (sym (c.named-left.ensures ∙ ap (listed c.args.index.now.map) c.seeks.ensures))
    (c.requires.index id) in (
      refl,
      taking-none held id (g.X.Seeks.verdict c.args.taker.now) c.args.others.now c.args.taken.now
          c.named-left.result.now c.args.asked.now named,
    )

pub bounds-others-place : goal.bounds-others-place
bounds-others-place g c =
    let w = taking-at _ _ _ _ _ _ _ _ _ c.loop-first.invariant.1 c.in-Some.ensures.cases.0 in
    omega (
      arith,
      taking-within _ _ _ _ _ _ _ _ _ w,
      length-map c.args.others.now g.X.Seeks.held,
    )

pub returns-then-accepts_left-clause-first : goal.returns-then-accepts_left-clause-first
returns-then-accepts_left-clause-first g c =
    let held = g.X.Seeks.held in
    let id = g.X.Seeks.sought c.args.taker.now in
    let verdict = g.X.Seeks.verdict c.args.taker.now in
    let others = c.args.others.now in
    let i = c.in-Some.first.now in
    let w = taking-at held id verdict others c.loop-first.taken _ _ _ _ c.loop-first.invariant.1
    c.in-Some.ensures.cases.0 in
    let lt : i < length others =
    omega (arith, taking-within _ _ _ _ _ i _ _ _ w, length-map others held) in
    let lt_taken : i < length c.loop-first.taken =
    omega (arith, lt, c.requires.as_many, ap length c.loop-first.invariant.0) in
    let at_i = slice_get_read others (length others) i _ refl lt c.index-others-place.is in
    let flag = slice_get-get_or c.loop-first.taken i false lt_taken
    ∙ ap Some (c.accepts_left.ensures.left c.if-accepts_left.true) in
    subst (λ old. IsTakenAt (IsFit held id verdict others c.loop-first.taken) others old
    (set c.loop-first.taken i true) i) c.loop-first.invariant.0
    (taking-found held id verdict others c.loop-first.taken i _ _ _ _ w at_i flag
    (c.accepts_left.ensures.yes c.if-accepts_left.true))

pub loop-first-preserved : goal.loop-first-preserved
loop-first-preserved g c =
    let held = g.X.Seeks.held in
    let id = g.X.Seeks.sought c.args.taker.now in
    let verdict = g.X.Seeks.verdict c.args.taker.now in
    let others = c.args.others.now in
    let i = c.in-Some.first.now in
    let w = taking-at held id verdict others c.loop-first.taken _ _ _ _ c.loop-first.invariant.1
    c.in-Some.ensures.cases.0 in
    let lt : i < length others =
    omega (arith, taking-within _ _ _ _ _ i _ _ _ w, length-map others held) in
    let lt_taken : i < length c.loop-first.taken =
    omega (arith, lt, c.requires.as_many, ap length c.loop-first.invariant.0) in
    let at_i = slice_get_read others (length others) i _ refl lt c.index-others-place.is in
    let flag = slice_get-get_or c.loop-first.taken i false lt_taken in (
      c.loop-first.invariant.0,
      taking-more held id verdict others c.loop-first.taken i _ _ _ _ _ _ w at_i flag
          (c.accepts_left.ensures.refused c.if-accepts_left.false)
          c.accepts_left.ensures.taken,
    )

pub returns-clause-none : goal.returns-clause-none
returns-clause-none g c =
    let w = taking-at _ _ _ _ _ _ _ _ _ c.loop-first.invariant.1
    (empty-from _ c.in_default.ensures.cases) in
    subst (λ old. FitsNone (IsFit g.X.Seeks.held (g.X.Seeks.sought c.args.taker.now)
    (g.X.Seeks.verdict c.args.taker.now) c.args.others.now c.loop-first.taken)
    (left_of old c.args.others.now)) c.loop-first.invariant.0
    (taking-done _ _ _ _ _ _ _ w)
