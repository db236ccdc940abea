use Rattle.rpki_files.proofs.Manifests.Built.{not-said}
use Rattle.rpki_files.proofs.laws.refused_manifests.Goals as goal

pub returns : goal.returns
returns c = not-said
