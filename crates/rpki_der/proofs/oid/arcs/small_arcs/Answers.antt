use Rattle.std.proofs.Common.{sym, ◌∙◌}
use Rattle.rpki_der.proofs.Text.{found, whole-oid, head-found, head-missed, dotted-found}
use Rattle.rpki_der.proofs.oid.arcs.small_arcs.Goals as goal

pub are_small-requires : goal.are_small-requires
are_small-requires c = (found _ _ _ _ _ c.in_ok-x.ensures).whole (whole-oid _ c.requires)

pub returns-in_err-x : goal.returns-in_err-x
returns-in_err-x c = rw c.from_residual.ensures (head-missed _ c.requires c.in_err-x.ensures)

pub invariant_of-result : goal.invariant_of-result
invariant_of-result c = record {
  whole = (found _ _ _ _ _ c.in_ok-x.ensures).whole (whole-oid _ c.requires);
  small = sym c.are_small.ensures ∙ c.if-are_small.true;
}

pub returns-then-are_small : goal.returns-then-are_small
returns-then-are_small c = (
  head-found _ _ _ c.in_ok-x.ensures ∙ sym c.are_small.ensures
      ∙ c.if-are_small.true,
  dotted-found _ _ _ c.in_ok-x.ensures,
)

pub returns-else-are_small : goal.returns-else-are_small
returns-else-are_small c = head-found _ _ _ c.in_ok-x.ensures ∙ sym c.are_small.ensures
    ∙ c.if-are_small.false
