use Rattle.std.proofs.Common.{◌∙◌, List, subst, sym, take, ◌+◌}
use Rattle.rpki_program.specs.Verify.Rta.{AreAnchors}
use Rattle.rpki_program.specs.declared.verify.rta.Anchor.{Anchor}
use Rattle.rpki_program.proofs.Anchored.{anchor-more, none-among, told-anchor, told-none}
use Rattle.rpki_program.proofs.verify.rta.anchors_of.Goals as goal

pub returns-in-Err-clause-none : goal.returns-in-Err-clause-none
returns-in-Err-clause-none g c =
    let l = c.loop-word in
    none-among (g.S.Store.told c.args.store.now) c.args.moment c.args.words.now l.word-index _
    c.loop-word-test.true _ _
    (told-none (g.S.Store.told l.store) (g.S.Store.told c.args.store.now) c.args.moment _
    c.in_ok-report.field-0 c.in-Err.report l.invariant.same c.in-Err.is c.in_ok-report.ensures.none)

pub loop-word-preserved : goal.loop-word-preserved
loop-word-preserved g c =
    let l = c.loop-word in
    let told = g.S.Store.told c.args.store.now in
    record {
      same = c.anchor_of.ensures.same ∙ l.invariant.same;
      made =
          subst (λ (anchors : List Anchor). AreAnchors told c.args.moment
          (take (l.word-index + 1) c.args.words.now) anchors) (sym c.in_ok-push-in-Ok.ensures.items)
          (anchor-more told c.args.moment c.args.words.now l.word-index _ c.loop-word-test.true
          l.anchors.items c.in-Ok.anchor l.invariant.made
          (told-anchor (g.S.Store.told l.store) told c.args.moment _ c.in_ok-report.field-0
          c.in-Ok.anchor l.invariant.same c.in-Ok.is c.in_ok-report.ensures.anchor));
    }
