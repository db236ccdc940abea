use Rattle.rpki_der.specs.declared.mode.Mode.TheVariants.{Der}
use Rattle.rpki_der.proofs.Form.Decoders.{decodes}
use Rattle.rpki_extensions.proofs.CertExtensions.Exact.{extensions-part}
use Rattle.rpki_examples.proofs.extensions.extensions_in.Goals as goal

pub returns : goal.returns
returns c =
    decodes extensions-part Der c.args.octets (λ x. x) c.read_front.result
    (rw c.as_slice.ensures at c.slices_hold_octets.ensures.octets) c.read_front.ensures
