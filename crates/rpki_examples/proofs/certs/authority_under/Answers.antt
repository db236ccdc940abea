use Rattle.std.proofs.Common.{◌≡◌}
use Rattle.rpki_faults.specs.declared.validation.ValidationError.TheVariants.{Memory}
use Rattle.rpki_certs.specs.Validate.{ca_validation, Validated, AreHeld, IsGoodUnder}
use Rattle.rpki_certs.specs.Validate.{IsValidatedUnder}
use Rattle.rpki_examples.proofs.Answered.{of-a-yes}
use Rattle.rpki_examples.proofs.certs.authority_under.Goals as goal

pub returns-clause-good : goal.returns-clause-good
returns-clause-good g c =
    let verdict = g.C.Crypto.is_signed c.args.crypto.now in
    let d = c.args.cert.certificate in
    let issuer = c.args.issuer.now in
    of-a-yes Memory (ca_validation verdict d issuer c.args.now)
    (IsValidatedUnder c.args.cert issuer) (λ _. IsGoodUnder verdict d issuer c.args.now)
    c.validate_ca_at.result
    (λ t all is. ((c.valid_certificates.ensures.ca verdict d issuer c.args.now).0 all).1)
    c.validate_ca_at.ensures

pub returns-clause-held : goal.returns-clause-held
unfolding IsValidatedUnder
returns-clause-held g c =
    let verdict = g.C.Crypto.is_signed c.args.crypto.now in
    let d = c.args.cert.certificate in
    let issuer = c.args.issuer.now in
    of-a-yes Memory (ca_validation verdict d issuer c.args.now)
    (IsValidatedUnder c.args.cert issuer)
    (λ (v : Validated). (v.cert ≡ c.args.cert) × AreHeld issuer.sets v.sets)
    c.validate_ca_at.result
    (λ v all is. (
      is.0,
      c.numbers_are_held.ensures d.tbs.extensions.claims issuer.sets v.sets
          ((c.valid_certificates.ensures.ca verdict d issuer c.args.now).0 all).1.allowed is.1,
    ))
    c.validate_ca_at.ensures
