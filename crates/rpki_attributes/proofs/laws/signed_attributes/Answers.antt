use Rattle.rpki_attributes.proofs.Lists.Exact.{attrs-reading}
use Rattle.rpki_attributes.proofs.laws.signed_attributes.Goals as goal

pub returns : goal.returns
returns c = attrs-reading
