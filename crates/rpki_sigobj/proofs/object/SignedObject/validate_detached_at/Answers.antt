use Rattle.rpki_faults.specs.declared.validation.ValidationError.TheVariants.{Memory}
use Rattle.rpki_certs.specs.Validate.{detached_ee_validation}
use Rattle.rpki_certs.proofs.Checking.{front-refuses, later-answers}
use Rattle.rpki_sigobj.specs.Verify.{object_checks}
use Rattle.rpki_sigobj.specs.Validate.{detached_validation, IsCertUnder}
use Rattle.rpki_sigobj.proofs.object.SignedObject.validate_detached_at.Goals as goal

pub returns-in-Err : goal.returns-in-Err
unfolding detached_validation
returns-in-Err g c =
    let s = c.args.self.object.signed in
    let digest = g.C.Crypto.digest_of c.args.crypto.now in
    let verdict = g.C.Crypto.is_signed c.args.crypto.now in
    front-refuses Memory (object_checks digest verdict s)
    (detached_ee_validation verdict s.cert c.args.issuer.now c.args.now) _ c.in-Err.ensures

pub returns-in-Ok : goal.returns-in-Ok
unfolding detached_validation
returns-in-Ok g c =
    let s = c.args.self.object.signed in
    let digest = g.C.Crypto.digest_of c.args.crypto.now in
    let verdict = g.C.Crypto.is_signed c.args.crypto.now in
    later-answers Memory (object_checks digest verdict s)
    (detached_ee_validation verdict s.cert c.args.issuer.now c.args.now)
    (IsCertUnder c.args.self c.args.issuer.now) _ c.in-Ok.ensures.0
    (rw c.into_cert.ensures at c.validate_detached_ee_at.ensures)
