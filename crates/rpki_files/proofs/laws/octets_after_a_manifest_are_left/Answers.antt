use Rattle.rpki_der.specs.Tags.{SEQUENCE}
use Rattle.rpki_der.proofs.Reading.After.{leaves-after}
use Rattle.rpki_files.specs.Manifest.{ManifestForm}
use Rattle.rpki_files.proofs.laws.octets_after_a_manifest_are_left.Goals as goal

pub returns : goal.returns
returns c = λ rule mode.
    leaves-after mode (ManifestForm rule mode) (λ o m h. (SEQUENCE, h.0.0, h.0.1))
