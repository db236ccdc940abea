use Rattle.rpki_der.proofs.Reading.Kinds.{reading-ia5}
use Rattle.rpki_der.proofs.laws.ia5_strings.Goals as goal

pub returns : goal.returns
returns c = reading-ia5
