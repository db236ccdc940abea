-- At most one beginning is a content.
use Rattle.rpki_der.specs.declared.mode.Mode.TheVariants.{Der}
use Rattle.rpki_der.proofs.Form.Words.{part-unique}
use Rattle.rpki_routes.proofs.Origins.Exact.{roa-part}
use Rattle.rpki_routes.proofs.laws.roas_are_unique.Goals as goal

pub returns : goal.returns
returns c = part-unique roa-part Der
