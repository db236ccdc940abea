use Rattle.rpki_validation.proofs.Steps.{not-true}
use Rattle.rpki_validation.proofs.issuer.anchor_of.Goals as goal

pub returns-else-is_keyed : goal.returns-else-is_keyed
returns-else-is_keyed c = (
  c.in-Ok.anchor,
  c.in-Ok.ensures,
  not-true c.is_keyed.result c.if-is_keyed.false c.is_keyed.ensures,
)
