use Rattle.rpki_der.proofs.Reading.Kinds.{reading-value}
use Rattle.rpki_der.proofs.laws.tagged_values.Goals as goal

pub returns : goal.returns
returns c = reading-value
