use Rattle.std.proofs.Common.{Result, Ok, Err}
use Rattle.std.specs.Fn.{FnOnceReturnsAt}
use Rattle.rpki_faults.specs.declared.validation.ValidationError.{ValidationError}
use Rattle.rpki_certs.specs.Cert.{KeptCertificate}
use Rattle.rpki_sigobj.specs.Object.{mode_of}
use Rattle.rpki_sigobj.specs.Signed.{whole_of}
use Rattle.rpki_signed.proofs.Checked.{answered-content}
use Rattle.rpki_signed.proofs.check.check_front.Goals as goal

pub returns-in-Err : goal.returns-in-Err
returns-in-Err g c = c.in-Err.ensures.decodes

pub process_at-requires : goal.process_at-requires
process_at-requires g c =
    let front = c.in-Ok.ensures.decodes in
    λ all. rw c.in-Ok.ensures.mode
    (c.requires (whole_of c.in-Ok.object) front.0 front.1.found all)

pub returns-in-Err-process_at : goal.returns-in-Err-process_at
returns-in-Err-process_at g c =
    let front = c.in-Ok.ensures.decodes in
    answered-content g.T.Content.kind (g.T.Content.form c.args.rule)
    (g.C.Crypto.digest_of c.args.crypto.now) (g.C.Crypto.is_signed c.args.crypto.now)
    c.args.issuer.now c.args.now
    (λ (k : KeptCertificate) (said : Result (Unit {0}) ValidationError).
    FnOnceReturnsAt g.F.FnOnce c.args.check_crl k said) g.T.Content.is_content
    (mode_of c.args.strict) c.args.bytes c.in-Ok.object front.0 c.in-Ok.ensures.mode front.1
    c.in-Ok.ensures.content (Err c.in-Err-process_at.e) c.in-Err-process_at.ensures

pub returns-in-Ok-process_at : goal.returns-in-Ok-process_at
returns-in-Ok-process_at g c =
    let front = c.in-Ok.ensures.decodes in
    answered-content g.T.Content.kind (g.T.Content.form c.args.rule)
    (g.C.Crypto.digest_of c.args.crypto.now) (g.C.Crypto.is_signed c.args.crypto.now)
    c.args.issuer.now c.args.now
    (λ (k : KeptCertificate) (said : Result (Unit {0}) ValidationError).
    FnOnceReturnsAt g.F.FnOnce c.args.check_crl k said) g.T.Content.is_content
    (mode_of c.args.strict) c.args.bytes c.in-Ok.object front.0 c.in-Ok.ensures.mode front.1
    c.in-Ok.ensures.content (Ok c.in-Ok-process_at.checked) c.in-Ok-process_at.ensures
