use Rattle.std.proofs.Common.{arith}
use Rattle.std.proofs.lemmas.Result.{err_from_is_err_and}
use Rattle.rpki_routes.proofs.Origins.Built.{first-of, list-passes}
use Rattle.rpki_routes.proofs.roa.builder.addresses.check_each.Goals as goal

pub returns-in_err-check_address-clause-faults : goal.returns-in_err-check_address-clause-faults
returns-in_err-check_address-clause-faults c =
    let p = err_from_is_err_and c.from_residual.result c.from_residual.ensures.1 in
    rw (p.1, p.2) (first-of c.args.family c.args.addrs.now c.loop-addr.addr-index
    c.addr-item.result _ (omega arith) c.addr-item.is c.loop-addr.invariant
    c.in_err-check_address.ensures.faults)

pub returns-clause-faults : goal.returns-clause-faults
returns-clause-faults c =
    list-passes c.args.family c.args.addrs.now
    (λ k d lt. c.loop-addr.invariant k d (omega (arith, lt)))
