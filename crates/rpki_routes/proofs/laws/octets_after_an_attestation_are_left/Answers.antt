use Rattle.rpki_der.specs.Tags.{SEQUENCE}
use Rattle.rpki_der.specs.declared.mode.Mode.TheVariants.{Der}
use Rattle.rpki_der.proofs.Reading.After.{leaves-after}
use Rattle.rpki_routes.specs.Aspa.Form.{AspaForm}
use Rattle.rpki_routes.proofs.laws.octets_after_an_attestation_are_left.Goals as goal

pub returns : goal.returns
returns c = λ limit. leaves-after Der (AspaForm limit) (λ o a h. (SEQUENCE, h.0.0, h.0.1))
