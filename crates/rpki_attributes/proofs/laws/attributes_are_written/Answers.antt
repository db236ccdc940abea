use Rattle.rpki_attributes.proofs.Lists.Written.{attrs-unique}
use Rattle.rpki_attributes.proofs.laws.attributes_are_written.Goals as goal

pub returns : goal.returns
returns c = attrs-unique
