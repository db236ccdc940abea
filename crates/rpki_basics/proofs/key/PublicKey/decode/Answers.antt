use Rattle.rpki_der.specs.declared.mode.Mode.TheVariants.{Der}
use Rattle.rpki_der.proofs.Form.Decoders.{decodes}
use Rattle.rpki_basics.proofs.Keys.Parts.{key-part}
use Rattle.rpki_basics.proofs.key.PublicKey.decode.Goals as goal

pub returns : goal.returns
returns c =
    decodes key-part Der c.args.source (λ k. k) c.decode_key.result
    (rw c.as_slice.ensures at c.slices_hold_octets.ensures.octets) c.decode_key.ensures
