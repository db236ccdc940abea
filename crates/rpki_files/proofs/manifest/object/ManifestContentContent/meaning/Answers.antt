use Rattle.rpki_files.proofs.manifest.object.ManifestContentContent.meaning.Goals as goal
use Rattle.rpki_files.proofs.Manifests.Meaning.{manifest-means}

pub returns : goal.returns
returns c = λ x said. manifest-means x
