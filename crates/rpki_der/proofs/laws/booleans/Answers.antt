use Rattle.rpki_der.proofs.Reading.Kinds.{reading-boolean}
use Rattle.rpki_der.proofs.laws.booleans.Goals as goal

pub returns : goal.returns
returns c = reading-boolean
