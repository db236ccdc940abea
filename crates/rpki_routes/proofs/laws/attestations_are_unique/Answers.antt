-- At most one beginning is a content.
use Rattle.rpki_der.specs.declared.mode.Mode.TheVariants.{Der}
use Rattle.rpki_der.proofs.Form.Words.{part-unique}
use Rattle.rpki_routes.proofs.Attestations.Exact.{aspa-part}
use Rattle.rpki_routes.proofs.laws.attestations_are_unique.Goals as goal

pub returns : goal.returns
returns c = λ limit. part-unique (aspa-part limit) Der
