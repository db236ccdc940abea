use Rattle.rpki_faults.specs.declared.validation.ValidationError.TheVariants.{Memory}
use Rattle.rpki_faults.specs.declared.validation.ValidationError.TheVariants.{Verification}
use Rattle.rpki_certs.specs.Validate.{AreValidated, covering_checks, issuing_checks}
use Rattle.rpki_certs.proofs.Checking.{shown-answers}
use Rattle.rpki_certs.proofs.cert.Cert.issued_sets.Goals as goal

pub returns : goal.returns
returns g c =
    let verdict = g.C.Crypto.is_signed c.args.crypto.now in
    let d = c.args.self.now.certificate in
    let issuer = c.issuer.inside in
    let claims = d.tbs.extensions.claims in
    rw (← c.issuer.view_is) (shown-answers Verification Memory
    (issuing_checks verdict d issuer.cert.certificate c.args.now)
    (covering_checks claims issuer.sets) (AreValidated claims issuer.sets) _
    c.in_ok-verify_issued.ensures (rw c.claims.ensures at c.validated_sets.ensures))
