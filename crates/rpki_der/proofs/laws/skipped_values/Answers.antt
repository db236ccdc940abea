use Rattle.rpki_der.proofs.Reading.Kinds.{reading-skipped}
use Rattle.rpki_der.proofs.laws.skipped_values.Goals as goal

pub returns : goal.returns
returns c = reading-skipped
