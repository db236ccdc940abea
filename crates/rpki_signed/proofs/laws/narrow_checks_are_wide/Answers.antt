use Rattle.rpki_signed.proofs.Wider.{manifest-keeps, aspa-keeps}
use Rattle.rpki_signed.proofs.laws.narrow_checks_are_wide.Goals as goal

pub returns-clause-manifests : goal.returns-clause-manifests
returns-clause-manifests g c = manifest-keeps _ _

pub returns-clause-aspas : goal.returns-clause-aspas
returns-clause-aspas g c = aspa-keeps _ _
