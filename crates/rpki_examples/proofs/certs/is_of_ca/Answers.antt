use Rattle.rpki_faults.proofs.Order.{first-fails}
use Rattle.rpki_certs.specs.Inspect.{ca_checks}
use Rattle.rpki_examples.proofs.Search.{say-yes, say-no}
use Rattle.rpki_examples.proofs.certs.is_of_ca.Goals as goal

pub returns-in-Ok : goal.returns-in-Ok
returns-in-Ok c = say-yes c.in-Ok.ensures

pub returns-in-Err : goal.returns-in-Err
returns-in-Err c =
    say-no (first-fails (ca_checks c.args.cert.now.certificate.tbs) c.in-Err.field-0
    c.in-Err.ensures)
