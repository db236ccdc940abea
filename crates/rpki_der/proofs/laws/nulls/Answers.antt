use Rattle.rpki_der.proofs.Reading.Kinds.{reading-null}
use Rattle.rpki_der.proofs.laws.nulls.Goals as goal

pub returns : goal.returns
returns c = reading-null
