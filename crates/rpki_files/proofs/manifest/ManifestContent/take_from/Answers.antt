use Rattle.rpki_der.proofs.Form.Decoders.{decodes-next}
use Rattle.rpki_files.specs.Manifest.{Manifest}
use Rattle.rpki_files.proofs.Manifests.Exact.{manifest-part}
use Rattle.rpki_files.proofs.manifest.ManifestContent.take_from.Goals as goal

pub returns-clause-decodes : goal.returns-clause-decodes
returns-clause-decodes c =
    decodes-next (manifest-part c.args.rule) (λ (m : Manifest). m) c.args.cons.now
    c.take_manifest.result c.take_manifest.new.cons c.holds_octets.ensures
    c.take_manifest.ensures.reads
