use Rattle.std.proofs.Common.{inl}
use Rattle.std.proofs.lemmas.Result.{err_from_is_err_and}
use Rattle.rpki_faults.proofs.Order.{first-join}
use Rattle.rpki_routes.proofs.aspa.checks.verify_claimed.Goals as goal
use Rattle.rpki_routes.specs.Aspa.Checks.{number_checks, address_checks}

pub returns-in_err-verify_numbers : goal.returns-in_err-verify_numbers
returns-in_err-verify_numbers c =
    let p = err_from_is_err_and c.from_residual.result c.from_residual.ensures.1 in
    let x = c.args.cert.now.certificate.tbs.extensions.claims in
    rw (p.1, p.2) (first-join (number_checks c.args.aspa.now.customer x.as_numbers)
    (address_checks x) _
    (inl (rw c.customer_as.ensures.value at c.in_err-verify_numbers.ensures)))
