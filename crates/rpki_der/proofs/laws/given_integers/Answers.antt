use Rattle.rpki_der.proofs.Reading.Kinds.{reading-this}
use Rattle.rpki_der.proofs.laws.given_integers.Goals as goal

pub returns : goal.returns
returns c = reading-this
