use Rattle.std.proofs.Common.{◌≤◌, ◌≡◌, length, arith, sym, ◌∙◌}
use Rattle.std.proofs.lemmas.Grind.{common_steps}
use Rattle.rpki_der.proofs.Text.{found, small-found, small-missed, small-end}
use Rattle.rpki_der.proofs.oid.arcs.are_small.Goals as goal

pub returns-in-None : goal.returns-in-None
returns-in-None c =
    let some : 1 ≤ length c.loop-rest.rest.now = grind (arith, common_steps) in
    sym (small-missed c.loop-rest.rest.now some c.loop-rest.invariant.0 c.in-None.ensures)
    ∙ c.loop-rest.invariant.1

pub loop-rest-smaller : goal.loop-rest-smaller
loop-rest-smaller c = (found _ _ _ _ _ c.in-Some.ensures).shorter

pub loop-rest-preserved : goal.loop-rest-preserved
loop-rest-preserved c = (
  (found _ _ _ _ _ c.in-Some.ensures).whole c.loop-rest.invariant.0,
  sym (small-found _ _ _ c.in-Some.ensures) ∙ c.loop-rest.invariant.1,
)

pub returns : goal.returns
returns c =
    let none : length c.loop-rest.rest.now ≡ 0 = grind (arith, common_steps) in
    sym (small-end c.loop-rest.rest.now none) ∙ c.loop-rest.invariant.1
