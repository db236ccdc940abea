use Rattle.rpki_basics.proofs.Times.Written.{time-written}
use Rattle.rpki_attributes.specs.declared.attribute.OtherTypes.TheVariants.{Refuse}
use Rattle.rpki_attributes.proofs.Lists.Written.{attrs-written, made-form, read-again}
use Rattle.rpki_attributes.proofs.laws.attributes_are_made.Goals as goal

pub returns-clause-written : goal.returns-clause-written
returns-clause-written c = λ type digest contents time valid real order short.
    attrs-written Refuse _ short
    (made-form type digest contents time valid (time-written time real) short order)

pub returns-clause-read : goal.returns-clause-read
returns-clause-read c = read-again
