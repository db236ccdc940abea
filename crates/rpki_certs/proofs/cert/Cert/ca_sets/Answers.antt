use Rattle.std.proofs.lemmas.Result.{err_from_is_err_and}
use Rattle.rpki_faults.specs.declared.validation.ValidationError.TheVariants.{Memory}
use Rattle.rpki_faults.specs.declared.validation.ValidationError.TheVariants.{Inspection}
use Rattle.rpki_certs.specs.Inspect.{ca_checks}
use Rattle.rpki_certs.specs.Validate.{AreValidated, issued_validation, ca_validation}
use Rattle.rpki_certs.proofs.Checking.{shown-refuses, shown-answers}
use Rattle.rpki_certs.proofs.cert.Cert.ca_sets.Goals as goal

pub returns-in_err-inspect_ca : goal.returns-in_err-inspect_ca
unfolding ca_validation
returns-in_err-inspect_ca g c =
    let p = err_from_is_err_and c.from_residual.result c.from_residual.ensures.1 in
    let verdict = g.C.Crypto.is_signed c.args.crypto.now in
    let d = c.args.self.now.certificate in
    rw (p.1, p.2) (shown-refuses Inspection Memory (ca_checks d.tbs)
    (issued_validation verdict d c.args.issuer.now c.args.now) _ c.in_err-inspect_ca.ensures)

pub returns : goal.returns
unfolding ca_validation
returns g c =
    let verdict = g.C.Crypto.is_signed c.args.crypto.now in
    let d = c.args.self.now.certificate in
    let issuer = c.args.issuer.now in
    shown-answers Inspection Memory (ca_checks d.tbs)
    (issued_validation verdict d issuer c.args.now)
    (AreValidated d.tbs.extensions.claims issuer.sets) _ c.in_ok-inspect_ca.ensures
    c.issued_sets.ensures
