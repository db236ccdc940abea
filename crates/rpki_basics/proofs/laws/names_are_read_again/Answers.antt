use Rattle.rpki_basics.proofs.Names.Exact.{name-read}
use Rattle.rpki_basics.proofs.laws.names_are_read_again.Goals as goal

pub returns : goal.returns
returns c = name-read
