use Rattle.rpki_der.specs.Tags.{SEQUENCE}
use Rattle.rpki_der.specs.declared.mode.Mode.TheVariants.{Der}
use Rattle.rpki_der.proofs.Reading.After.{leaves-after}
use Rattle.rpki_routes.specs.Roa.Form.{RoaForm}
use Rattle.rpki_routes.proofs.laws.octets_after_a_roa_are_left.Goals as goal

pub returns : goal.returns
returns c = leaves-after Der RoaForm (λ o r h. (SEQUENCE, h.0, h.1))
