use Rattle.std.proofs.lemmas.Result.{err_from_is_err_and}
use Rattle.rpki_faults.specs.declared.validation.ValidationError.TheVariants.{Memory}
use Rattle.rpki_faults.specs.declared.validation.ValidationError.TheVariants.{Inspection}
use Rattle.rpki_certs.specs.Inspect.{detached_ee_checks}
use Rattle.rpki_certs.specs.Validate.{AreValidated, issued_validation, detached_ee_validation}
use Rattle.rpki_certs.proofs.Checking.{shown-refuses, shown-answers}
use Rattle.rpki_certs.proofs.cert.Cert.detached_ee_sets.Goals as goal

pub returns-in_err-inspect_detached_ee : goal.returns-in_err-inspect_detached_ee
unfolding detached_ee_validation
returns-in_err-inspect_detached_ee g c =
    let p = err_from_is_err_and c.from_residual.result c.from_residual.ensures.1 in
    let verdict = g.C.Crypto.is_signed c.args.crypto.now in
    let d = c.args.self.now.certificate in
    rw (p.1, p.2) (shown-refuses Inspection Memory (detached_ee_checks d.tbs)
    (issued_validation verdict d c.args.issuer.now c.args.now) _
    c.in_err-inspect_detached_ee.ensures)

pub returns : goal.returns
unfolding detached_ee_validation
returns g c =
    let verdict = g.C.Crypto.is_signed c.args.crypto.now in
    let d = c.args.self.now.certificate in
    let issuer = c.args.issuer.now in
    shown-answers Inspection Memory (detached_ee_checks d.tbs)
    (issued_validation verdict d issuer c.args.now)
    (AreValidated d.tbs.extensions.claims issuer.sets) _ c.in_ok-inspect_detached_ee.ensures
    c.issued_sets.ensures
