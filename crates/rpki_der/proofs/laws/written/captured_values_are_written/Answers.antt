use Rattle.rpki_der.proofs.Writing.Values.{captured-written}
use Rattle.rpki_der.proofs.laws.written.captured_values_are_written.Goals as goal

pub returns : goal.returns
returns c = captured-written
