use Rattle.rpki_faults.proofs.Order.{first-fails}
use Rattle.rpki_certs.specs.Inspect.{ca_checks, ee_checks, detached_ee_checks}
use Rattle.rpki_certs.specs.Validate.{ca_validation, ee_validation, detached_ee_validation}
use Rattle.rpki_certs.proofs.Valid.{issued-valid}
use Rattle.rpki_certs.proofs.laws.refused_certificates.Goals as goal

pub returns-clause-ca : goal.returns-clause-ca
unfolding ca_validation
returns-clause-ca c = λ verdict d issuer now fault h good.
    first-fails (ca_validation verdict d issuer now) fault h
    ((issued-valid (ca_checks d.tbs) verdict d issuer now).1 good)

pub returns-clause-ee : goal.returns-clause-ee
unfolding ee_validation
returns-clause-ee c = λ verdict d issuer now fault h good.
    first-fails (ee_validation verdict d issuer now) fault h
    ((issued-valid (ee_checks d.tbs) verdict d issuer now).1 good)

pub returns-clause-detached : goal.returns-clause-detached
unfolding detached_ee_validation
returns-clause-detached c = λ verdict d issuer now fault h good.
    first-fails (detached_ee_validation verdict d issuer now) fault h
    ((issued-valid (detached_ee_checks d.tbs) verdict d issuer now).1 good)
