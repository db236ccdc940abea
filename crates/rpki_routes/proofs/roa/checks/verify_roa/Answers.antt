use Rattle.std.proofs.lemmas.Result.{err_from_is_err_and}
use Rattle.rpki_resources.specs.declared.family.AddressFamily.TheVariants.{Ipv4, Ipv6}
use Rattle.rpki_routes.proofs.roa.checks.verify_roa.Goals as goal
use Rattle.rpki_routes.proofs.Origins.Chains.{later-first, front-at, hold-at, answers-at}
use Rattle.rpki_routes.specs.Roa.Checks.{family_checks}

pub returns-in_err-verify_family : goal.returns-in_err-verify_family
returns-in_err-verify_family c =
    let p = err_from_is_err_and c.from_residual.result c.from_residual.ensures.1 in
    let r = c.args.roa.now in
    let sets = c.args.cert.now.sets in
    rw (p.1, p.2) (front-at Ipv4 _ sets.v4 _ r.v4 c.v4_resources.ensures c.v4_addrs.ensures.value
    (family_checks Ipv6 sets.v6 r.v6) _ c.in_err-verify_family.ensures)

pub returns : goal.returns
returns c =
    let r = c.args.roa.now in
    let sets = c.args.cert.now.sets in
    later-first (family_checks Ipv4 sets.v4 r.v4) (family_checks Ipv6 sets.v6 r.v6)
    c.verify_family-2.result
    (hold-at Ipv4 _ sets.v4 _ r.v4 c.v4_resources.ensures c.v4_addrs.ensures.value
    c.in_ok-verify_family.ensures)
    (answers-at Ipv6 _ sets.v6 _ r.v6 c.v6_resources.ensures c.v6_addrs.ensures.value
    c.verify_family-2.result c.verify_family-2.ensures)
