use Rattle.rpki_basics.proofs.Names.Exact.{name-reading}
use Rattle.rpki_basics.proofs.laws.names.Goals as goal

pub returns : goal.returns
returns c = name-reading
