-- What is decoded is the content at the front.
use Rattle.rpki_der.specs.declared.mode.Mode.TheVariants.{Der}
use Rattle.rpki_der.proofs.Form.Decoders.{decodes}
use Rattle.rpki_routes.specs.Roa.{Roa}
use Rattle.rpki_routes.proofs.Origins.Exact.{roa-part}
use Rattle.rpki_routes.proofs.roa.RouteOriginAttestation.decode.Goals as goal

pub returns : goal.returns
returns c =
    decodes roa-part Der c.args.source (λ (r : Roa). r) c.read_front.result
    (rw c.as_slice.ensures at c.slices_hold_octets.ensures.octets) c.read_front.ensures
