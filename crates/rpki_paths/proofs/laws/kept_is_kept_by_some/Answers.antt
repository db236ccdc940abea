-- What takes as the first takes.
use Rattle.rpki_paths.proofs.After.{kept_is_kept_by_some}
use Rattle.rpki_paths.proofs.laws.kept_is_kept_by_some.Goals as goal

pub returns : goal.returns
returns g c = kept_is_kept_by_some g.C.Certificate.cert
