use Rattle.rpki_attributes.proofs.Lists.Written.{attrs-skip}
use Rattle.rpki_attributes.proofs.laws.attributes_without_others.Goals as goal

pub returns : goal.returns
returns c = attrs-skip
