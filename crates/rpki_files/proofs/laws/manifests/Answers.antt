use Rattle.rpki_files.proofs.Manifests.Exact.{file-reading, manifest-reading}
use Rattle.rpki_files.proofs.laws.manifests.Goals as goal

pub returns-clause-file : goal.returns-clause-file
returns-clause-file c = file-reading

pub returns-clause-manifest : goal.returns-clause-manifest
returns-clause-manifest c = manifest-reading
