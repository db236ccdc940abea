-- What it means that all checks of a validation hold.
use Rattle.std.specs.Prelude.{◌↔◌}
use Rattle.rpki_basics.specs.Moment.{Moment}
use Rattle.rpki_faults.specs.Checks.{AllHold}
use Rattle.rpki_faults.proofs.Order.{hold-split, hold-join}
use Rattle.rpki_certs.specs.Inspect.{ee_checks, detached_ee_checks}
use Rattle.rpki_certs.specs.Verify.{Verdict}
use Rattle.rpki_certs.specs.Validate.{Validated, IsGoodUnder, ee_validation}
use Rattle.rpki_certs.specs.Validate.{detached_ee_validation}
use Rattle.rpki_certs.proofs.Valid.{issued-valid}
use Rattle.rpki_sigobj.specs.Object.{SignedData}
use Rattle.rpki_sigobj.specs.Verify.{Digester, IsWellSigned, object_checks}
use Rattle.rpki_sigobj.specs.Validate.{object_validation, detached_validation}

pub well-signed : (digest : Digester) (verdict : Verdict) (s : SignedData)
    → AllHold (object_checks digest verdict s) ↔ IsWellSigned digest verdict s
well-signed digest verdict s = (
  λ h. record {
    names_its_key = h.0;
    has_its_digest = h.1.0;
    in_time = h.1.1.0;
    signed = h.1.1.1.0;
  },
  λ h. (h.names_its_key, (h.has_its_digest, (h.in_time, (h.signed, tt)))),
)

pub published-valid : (digest : Digester) (verdict : Verdict) (s : SignedData)
    (issuer : Validated) (now : Moment)
    → AllHold (object_validation digest verdict s issuer now)
    ↔ (IsWellSigned digest verdict s × AllHold (ee_checks s.cert.tbs)
    × IsGoodUnder verdict s.cert issuer now)
unfolding object_validation ee_validation
published-valid digest verdict s issuer now =
    let signed = well-signed digest verdict s in
    let valid = issued-valid (ee_checks s.cert.tbs) verdict s.cert issuer now in (
      λ h. let p = hold-split (object_checks digest verdict s)
          (ee_validation verdict s.cert issuer now) h in
          let v = valid.0 p.1 in (signed.0 p.0, v.0, v.1),
      λ h. hold-join (object_checks digest verdict s)
          (ee_validation verdict s.cert issuer now) (signed.1 h.0, valid.1 (h.1, h.2)),
    )

pub detached-valid : (digest : Digester) (verdict : Verdict) (s : SignedData)
    (issuer : Validated) (now : Moment)
    → AllHold (detached_validation digest verdict s issuer now)
    ↔ (IsWellSigned digest verdict s × AllHold (detached_ee_checks s.cert.tbs)
    × IsGoodUnder verdict s.cert issuer now)
unfolding detached_validation detached_ee_validation
detached-valid digest verdict s issuer now =
    let signed = well-signed digest verdict s in
    let valid = issued-valid (detached_ee_checks s.cert.tbs) verdict s.cert issuer now in (
      λ h. let p = hold-split (object_checks digest verdict s)
          (detached_ee_validation verdict s.cert issuer now) h in
          let v = valid.0 p.1 in (signed.0 p.0, v.0, v.1),
      λ h. hold-join (object_checks digest verdict s)
          (detached_ee_validation verdict s.cert issuer now) (signed.1 h.0, valid.1 (h.1, h.2)),
    )
