use Rattle.rpki_sigobj.proofs.Valid.{published-valid, detached-valid}
use Rattle.rpki_sigobj.proofs.laws.valid_objects.Goals as goal

pub returns-clause-published : goal.returns-clause-published
returns-clause-published c = published-valid

pub returns-clause-detached : goal.returns-clause-detached
returns-clause-detached c = detached-valid
