use Rattle.rpki_command.proofs.Same.{makes-same, makes-spent}
use Rattle.rpki_command.proofs.laws.issuers_are_unique.Goals as goal

pub returns-clause-same : goal.returns-clause-same
returns-clause-same c = makes-same

pub returns-clause-refused : goal.returns-clause-refused
returns-clause-refused c = makes-spent
