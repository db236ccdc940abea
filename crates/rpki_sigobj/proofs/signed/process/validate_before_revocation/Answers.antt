use Rattle.std.proofs.Common.{inr}
use Rattle.rpki_faults.specs.declared.validation.ValidationError.TheVariants.{Memory}
use Rattle.rpki_certs.proofs.Checking.{front-refuses, later-answers}
use Rattle.rpki_sigobj.specs.Validate.{IsCertUnder}
use Rattle.rpki_sigobj.proofs.signed.process.validate_before_revocation.Goals as goal
use Rattle.rpki_sigobj.specs.Signed.Process.{validation}

pub returns-in-Err : goal.returns-in-Err
returns-in-Err g c =
    let s = c.args.object.object.signed in
    let kind = g.T.Content.kind in
    let under = c.args.under.now in
    let digest = g.C.Crypto.digest_of under.crypto.now in
    let verdict = g.C.Crypto.is_signed under.crypto.now in
    front-refuses Memory (kind.claimed c.args.content.now s.cert.tbs.extensions.claims)
    (validation kind.is_published digest verdict s under.issuer.now under.moment) _
    (inr (rw c.cert.ensures at c.in-Err.ensures))

pub returns-in-Ok : goal.returns-in-Ok
returns-in-Ok g c =
    let s = c.args.object.object.signed in
    let kind = g.T.Content.kind in
    let under = c.args.under.now in
    let digest = g.C.Crypto.digest_of under.crypto.now in
    let verdict = g.C.Crypto.is_signed under.crypto.now in
    later-answers Memory (kind.claimed c.args.content.now s.cert.tbs.extensions.claims)
    (validation kind.is_published digest verdict s under.issuer.now under.moment)
    (IsCertUnder c.args.object under.issuer.now) _ (rw c.cert.ensures at c.in-Ok.ensures)
    (rw c.is_published.ensures at c.validate_object.ensures)
