use Rattle.rpki_der.proofs.Reading.Kinds.{reading-contents}
use Rattle.rpki_der.proofs.laws.contents_of_values.Goals as goal

pub returns : goal.returns
returns c = reading-contents
