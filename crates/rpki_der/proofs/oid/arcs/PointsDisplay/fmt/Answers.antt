use Rattle.std.proofs.Common.{◌++◌, sym, ◌∙◌}
use Rattle.std.proofs.Output.{has_written_append, has_written_of_eq}
use Rattle.rpki_der.specs.Oid.{point}
use Rattle.rpki_der.proofs.Text.{found, small-found, written-all, written-more}
use Rattle.rpki_der.proofs.oid.arcs.PointsDisplay.fmt.Goals as goal

pub loop-arc-smaller : goal.loop-arc-smaller
loop-arc-smaller g c = (found _ _ _ _ _ c.in-Some.ensures).shorter

pub loop-arc-preserved : goal.loop-arc-preserved
loop-arc-preserved g c =
    let i = c.loop-arc.invariant in (
      (found _ _ _ _ _ c.in-Some.ensures).whole i.0,
      sym (small-found _ _ _ c.in-Some.ensures) ∙ i.1,
      λ plain. let k = i.2 plain in (
        k.0 ++ point c.in-Some.arc,
        has_written_append _ _ _ _ _ _ k.1 (c.in_ok-write.ensures.writes k.1.plain cc),
        written-more k.0 _ _ _ c.in-Some.arc c.in-Some.ensures k.2,
      ),
    )

pub returns-clause-writes : goal.returns-clause-writes
returns-clause-writes g c =
    let i = c.loop-arc.invariant in
    λ plain _. let k = i.2 plain in
    has_written_of_eq _ _ _ _ _ (written-all k.0 _ _ i.0 i.1 c.in_default.ensures k.2) k.1
