use Rattle.std.proofs.Common.{◌≡◌}
use Rattle.rpki_faults.specs.Checks.{AllHold}
use Rattle.rpki_faults.specs.declared.validation.ValidationError.TheVariants.{Memory}
use Rattle.rpki_certs.specs.Inspect.{ee_checks}
use Rattle.rpki_certs.specs.Validate.{Validated, AreHeld, IsGoodUnder, IsValidatedUnder}
use Rattle.rpki_sigobj.specs.Object.{cert_of}
use Rattle.rpki_sigobj.specs.Validate.{object_validation}
use Rattle.rpki_sigobj.specs.Verify.{IsWellSigned}
use Rattle.rpki_examples.proofs.Answered.{of-a-yes}
use Rattle.rpki_examples.proofs.objects.signer_under.Goals as goal

pub returns-clause-good : goal.returns-clause-good
returns-clause-good g c =
    let digest = g.C.Crypto.digest_of c.args.crypto.now in
    let verdict = g.C.Crypto.is_signed c.args.crypto.now in
    let s = c.args.object.object.signed in
    let issuer = c.args.issuer.now in
    of-a-yes Memory (object_validation digest verdict s issuer c.args.now)
    (IsValidatedUnder (cert_of c.args.object) issuer)
    (λ _. IsWellSigned digest verdict s × AllHold (ee_checks s.cert.tbs)
    × IsGoodUnder verdict s.cert issuer c.args.now)
    c.validate_at.result
    (λ t all is. (c.valid_objects.ensures.published digest verdict s issuer c.args.now).0 all)
    c.validate_at.ensures

pub returns-clause-held : goal.returns-clause-held
unfolding IsValidatedUnder
returns-clause-held g c =
    let digest = g.C.Crypto.digest_of c.args.crypto.now in
    let verdict = g.C.Crypto.is_signed c.args.crypto.now in
    let s = c.args.object.object.signed in
    let issuer = c.args.issuer.now in
    of-a-yes Memory (object_validation digest verdict s issuer c.args.now)
    (IsValidatedUnder (cert_of c.args.object) issuer)
    (λ (v : Validated). (v.cert ≡ cert_of c.args.object) × AreHeld issuer.sets v.sets)
    c.validate_at.result
    (λ t all is. (
      is.0,
      c.numbers_are_held.ensures s.cert.tbs.extensions.claims issuer.sets t.sets
          ((c.valid_objects.ensures.published digest verdict s issuer c.args.now).0 all).2.allowed
          is.1,
    ))
    c.validate_at.ensures
