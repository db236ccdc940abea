use Rattle.rpki_basics.proofs.Times.Read.{time-reading}
use Rattle.rpki_basics.proofs.laws.times.Goals as goal

pub returns : goal.returns
returns c = time-reading
