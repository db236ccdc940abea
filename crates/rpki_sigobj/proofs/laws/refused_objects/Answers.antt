use Rattle.rpki_faults.proofs.Order.{first-fails}
use Rattle.rpki_sigobj.specs.Validate.{object_validation, detached_validation}
use Rattle.rpki_sigobj.proofs.Valid.{published-valid, detached-valid}
use Rattle.rpki_sigobj.proofs.laws.refused_objects.Goals as goal

pub returns-clause-published : goal.returns-clause-published
returns-clause-published c = λ digest verdict s issuer now fault h good.
    first-fails (object_validation digest verdict s issuer now) fault h
    ((published-valid digest verdict s issuer now).1 good)

pub returns-clause-detached : goal.returns-clause-detached
returns-clause-detached c = λ digest verdict s issuer now fault h good.
    first-fails (detached_validation digest verdict s issuer now) fault h
    ((detached-valid digest verdict s issuer now).1 good)
