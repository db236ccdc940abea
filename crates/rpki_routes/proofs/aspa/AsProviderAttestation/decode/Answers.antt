-- What is decoded is the content at the front.
use Rattle.rpki_der.specs.declared.mode.Mode.TheVariants.{Der}
use Rattle.rpki_der.proofs.Form.Decoders.{decodes}
use Rattle.rpki_routes.specs.Aspa.{Aspa}
use Rattle.rpki_routes.proofs.Attestations.Exact.{aspa-part}
use Rattle.rpki_routes.proofs.aspa.AsProviderAttestation.decode.Goals as goal

pub returns : goal.returns
returns c =
    decodes (aspa-part c.args.limit) Der c.args.source (λ (a : Aspa). a) c.read_front.result
    (rw c.as_slice.ensures at c.slices_hold_octets.ensures.octets) c.read_front.ensures
