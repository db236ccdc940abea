use Rattle.std.proofs.lemmas.Result.{err_from_is_err_and}
use Rattle.rpki_faults.specs.declared.validation.ValidationError.TheVariants.{Verification}
use Rattle.rpki_faults.proofs.Order.{first-shown}
use Rattle.rpki_routes.proofs.aspa.object.AsProviderAttestationContent.verify_claims.Goals as goal
use Rattle.rpki_routes.specs.Aspa.Checks.{aspa_claimed}

pub returns-in_err-verify_claimed : goal.returns-in_err-verify_claimed
returns-in_err-verify_claimed c =
    let p = err_from_is_err_and c.from_residual.result c.from_residual.ensures.1 in
    rw (p.1, p.2) (first-shown Verification
    (aspa_claimed c.args.self.now c.args.cert.now.certificate.tbs.extensions.claims) _
    c.in_err-verify_claimed.ensures)
