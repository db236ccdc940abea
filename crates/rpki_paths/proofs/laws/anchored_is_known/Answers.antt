-- A trust anchor, or the supplied CA, has an explicit set.
use Rattle.rpki_paths.proofs.Meets.{anchored-known}
use Rattle.rpki_paths.proofs.laws.anchored_is_known.Goals as goal

pub returns : goal.returns
returns c = anchored-known
