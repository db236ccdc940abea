use Rattle.std.proofs.lemmas.Result.{err_from_is_err_and}
use Rattle.rpki_faults.specs.declared.validation.ValidationError.TheVariants.{Verification}
use Rattle.rpki_faults.proofs.Order.{first-shown, hold-shown}
use Rattle.rpki_routes.proofs.roa.object.RouteOriginAttestationContent.verify_held.Goals as goal
use Rattle.rpki_routes.specs.Roa.Checks.{roa_held}

pub returns-in_err-verify_roa : goal.returns-in_err-verify_roa
returns-in_err-verify_roa c =
    let p = err_from_is_err_and c.from_residual.result c.from_residual.ensures.1 in
    rw (p.1, p.2) (first-shown Verification (roa_held c.args.self.now c.args.cert.now.sets) _
    c.in_err-verify_roa.ensures)

pub returns : goal.returns
returns c =
    hold-shown Verification (roa_held c.args.self.now c.args.cert.now.sets)
    c.in_ok-verify_roa.ensures
