use Rattle.std.proofs.Common.{Result, ◌∙◌}
use Rattle.std.specs.Fn.{FnOnceReturnsAt}
use Rattle.rpki_faults.specs.declared.validation.ValidationError.{ValidationError}
use Rattle.rpki_sigobj.specs.Object.{cert_of}
use Rattle.rpki_sigobj.specs.Validate.{IsCertUnder}
use Rattle.rpki_sigobj.proofs.signed.process.process_parts.Goals as goal
use Rattle.rpki_sigobj.proofs.Wholes.Asking.{not-asked, refused-after, all-held, cert-under}
use Rattle.rpki_sigobj.specs.Signed.Process.{before_revocation}

pub ask_before_numbers-requires : goal.ask_before_numbers-requires
ask_before_numbers-requires g c =
    let held = c.in-Ok.ensures in
    λ p e. c.requires held.0 p (e ∙ cert-under c.args.object c.args.under.now.issuer.now _ held.1)

pub returns-in-Err : goal.returns-in-Err
returns-in-Err g c =
    let kind = g.T.Content.kind in
    let under = c.args.under.now in
    let digest = g.C.Crypto.digest_of under.crypto.now in
    let verdict = g.C.Crypto.is_signed under.crypto.now in
    not-asked (before_revocation kind digest verdict
    (record { object = c.args.object.object; content = c.args.content })
    under.issuer.now under.moment)
    (IsCertUnder c.args.object under.issuer.now)
    (λ (said : Result (Unit {0}) ValidationError).
    FnOnceReturnsAt g.F.FnOnce c.args.check_crl (cert_of c.args.object) said)
    (kind.held c.args.content) c.args.content under.issuer.now c.in-Err.e c.in-Err.ensures

pub returns-in-Err-ask_before_numbers : goal.returns-in-Err-ask_before_numbers
returns-in-Err-ask_before_numbers g c =
    let kind = g.T.Content.kind in
    let under = c.args.under.now in
    let digest = g.C.Crypto.digest_of under.crypto.now in
    let verdict = g.C.Crypto.is_signed under.crypto.now in
    let held = c.in-Ok.ensures in
    let asked = c.in-Err-ask_before_numbers.ensures in
    refused-after (before_revocation kind digest verdict
    (record { object = c.args.object.object; content = c.args.content })
    under.issuer.now under.moment)
    (IsCertUnder c.args.object under.issuer.now)
    (λ (said : Result (Unit {0}) ValidationError).
    FnOnceReturnsAt g.F.FnOnce c.args.check_crl (cert_of c.args.object) said)
    (kind.held c.args.content) c.args.content held.0 c.in-Ok.cert held.1 asked.0 (
      asked.1.0,
      asked.1.1,
      asked.1.2 ∙ cert-under c.args.object under.issuer.now _ held.1,
    ) c.in-Err-ask_before_numbers.e asked.2

pub returns-in-Ok-ask_before_numbers : goal.returns-in-Ok-ask_before_numbers
returns-in-Ok-ask_before_numbers g c =
    let kind = g.T.Content.kind in
    let under = c.args.under.now in
    let digest = g.C.Crypto.digest_of under.crypto.now in
    let verdict = g.C.Crypto.is_signed under.crypto.now in
    let held = c.in-Ok.ensures in
    let asked = c.in-Ok-ask_before_numbers.ensures in
    all-held (before_revocation kind digest verdict
    (record { object = c.args.object.object; content = c.args.content })
    under.issuer.now under.moment)
    (IsCertUnder c.args.object under.issuer.now)
    (λ (said : Result (Unit {0}) ValidationError).
    FnOnceReturnsAt g.F.FnOnce c.args.check_crl (cert_of c.args.object) said)
    (kind.held c.args.content) c.args.content held.0 c.in-Ok.cert held.1 asked.0 (
      asked.1.0,
      asked.1.1,
      asked.1.2 ∙ cert-under c.args.object under.issuer.now _ held.1,
    ) asked.2
