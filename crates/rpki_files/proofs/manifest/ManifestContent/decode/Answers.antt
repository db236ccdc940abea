-- What is decoded is the content at the front.
use Rattle.rpki_der.specs.declared.mode.Mode.TheVariants.{Der}
use Rattle.rpki_der.proofs.Form.Decoders.{decodes}
use Rattle.rpki_files.specs.Manifest.{Manifest}
use Rattle.rpki_files.proofs.Manifests.Exact.{manifest-part}
use Rattle.rpki_files.proofs.manifest.ManifestContent.decode.Goals as goal

pub returns : goal.returns
returns c =
    decodes (manifest-part c.args.rule) Der c.args.source (λ (m : Manifest). m) c.read_front.result
    (rw c.as_slice.ensures at c.slices_hold_octets.ensures.octets) c.read_front.ensures
