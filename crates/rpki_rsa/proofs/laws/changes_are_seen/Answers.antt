use Rattle.rpki_der.proofs.Writing.Numbers.{number-injective}
use Rattle.rpki_rsa.proofs.Changes.{message-digest, digest-message}
use Rattle.rpki_rsa.proofs.laws.changes_are_seen.Goals as goal

pub returns-clause-signature : goal.returns-clause-signature
returns-clause-signature c = λ a b ha hb l ne e. ne (number-injective a b 0 0 l ha hb e).1

pub returns-clause-message : goal.returns-clause-message
returns-clause-message c = message-digest

pub returns-clause-digest : goal.returns-clause-digest
returns-clause-digest c = digest-message
