use Rattle.rpki_attributes.proofs.Lists.Written.{message-written, message-unique}
use Rattle.rpki_attributes.proofs.laws.messages.Goals as goal

pub returns-clause-written : goal.returns-clause-written
returns-clause-written c = message-written

pub returns-clause-unique : goal.returns-clause-unique
returns-clause-unique c = message-unique
