use Rattle.std.proofs.lemmas.Result.{err_from_is_err_and}
use Rattle.rpki_faults.specs.declared.validation.ValidationError.TheVariants.{Inspection}
use Rattle.rpki_faults.proofs.Order.{first-shown}
use Rattle.rpki_files.proofs.checklist.object.ResourceSignedChecklistContent.verify_claims.Goals as goal
use Rattle.rpki_files.specs.Checklist.Checks.{checklist_claimed}

pub returns-in_err-inspect_claims : goal.returns-in_err-inspect_claims
returns-in_err-inspect_claims c =
    let p = err_from_is_err_and c.from_residual.result c.from_residual.ensures.1 in
    rw (p.1, p.2) (first-shown Inspection
    (checklist_claimed c.args.self.now c.args.cert.now.certificate.tbs.extensions.claims) _
    c.in_err-inspect_claims.ensures)
