use Rattle.rpki_der.proofs.Reading.Kinds.{reading-oid}
use Rattle.rpki_der.proofs.laws.object_identifiers.Goals as goal

pub returns : goal.returns
returns c = reading-oid
