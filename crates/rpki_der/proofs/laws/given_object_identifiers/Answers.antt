use Rattle.rpki_der.proofs.Reading.Kinds.{reading-these}
use Rattle.rpki_der.proofs.laws.given_object_identifiers.Goals as goal

pub returns : goal.returns
returns c = reading-these
