use Rattle.rpki_command.proofs.Same.{yes-or-no}
use Rattle.rpki_command.proofs.Anchored.{granted-or-not}
use Rattle.rpki_command.proofs.laws.yes_and_no_exclude_each_other.Goals as goal

pub returns-clause-checks : goal.returns-clause-checks
returns-clause-checks c = yes-or-no

pub returns-clause-attestations : goal.returns-clause-attestations
returns-clause-attestations c = granted-or-not
