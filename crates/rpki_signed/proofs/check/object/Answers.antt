use Rattle.std.proofs.Common.{Result}
use Rattle.std.specs.Fn.{FnOnceReturnsAt}
use Rattle.rpki_faults.specs.declared.validation.ValidationError.{ValidationError}
use Rattle.rpki_certs.specs.Cert.{KeptCertificate}
use Rattle.rpki_sigobj.specs.Object.{mode_of}
use Rattle.rpki_signed.proofs.Checked.{first-of, exact-of}
use Rattle.rpki_signed.proofs.check.object.Goals as goal

pub returns-clause-first : goal.returns-clause-first
returns-clause-first g c =
    first-of g.T.Content.kind (g.T.Content.form c.args.rule)
    (g.C.Crypto.digest_of c.args.crypto.now) (g.C.Crypto.is_signed c.args.crypto.now)
    c.args.issuer.now c.args.now
    (λ (k : KeptCertificate) (said : Result (Unit {0}) ValidationError).
    FnOnceReturnsAt g.F.FnOnce c.args.check_crl k said) g.T.Content.is_content
    (mode_of c.args.strict) c.args.bytes
    c.check_front.result c.check_front.ensures

pub returns-clause-exact : goal.returns-clause-exact
returns-clause-exact g c =
    exact-of g.T.Content.kind (g.T.Content.form c.args.rule)
    (g.C.Crypto.digest_of c.args.crypto.now) (g.C.Crypto.is_signed c.args.crypto.now)
    c.args.issuer.now c.args.now
    (λ (k : KeptCertificate) (said : Result (Unit {0}) ValidationError).
    FnOnceReturnsAt g.F.FnOnce c.args.check_crl k said) g.T.Content.is_content
    (mode_of c.args.strict) c.args.bytes c.meaning.ensures
    c.check_front.result c.check_front.ensures
