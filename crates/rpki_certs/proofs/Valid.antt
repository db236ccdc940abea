-- What it means that all checks of a validation hold.
use Rattle.std.proofs.Common.{List, ◌≡◌}
use Rattle.sha1.specs.Sha1.{sha1}
use Rattle.std.specs.Prelude.{◌↔◌}
use Rattle.rpki_basics.specs.Moment.{Moment}
use Rattle.rpki_faults.specs.Checks.{Check, AllHold, ◌as_faults_of◌}
use Rattle.rpki_faults.specs.declared.inspection.InspectionError.{InspectionError}
use Rattle.rpki_faults.specs.declared.validation.ValidationError.TheVariants.{Inspection}
use Rattle.rpki_faults.specs.declared.validation.ValidationError.TheVariants.{Verification}
use Rattle.rpki_faults.proofs.Order.{hold-split, hold-join, hold-shown, hold-hidden}
use Rattle.rpki_certs.specs.Cert.{Certificate}
use Rattle.rpki_certs.specs.Inspect.{ta_checks}
use Rattle.rpki_certs.specs.Verify.{Verdict, ta_ref_checks}
use Rattle.rpki_certs.specs.Validate.{Validated, issued_validation, ta_validation}
use Rattle.rpki_certs.specs.Validate.{IsGoodAnchor, IsGoodUnder}
use Rattle.rpki_certs.specs.Validate.{ca_validation, ee_validation, detached_ee_validation}
use Rattle.std.specs.Prelude.{◌++◌}

pub anchor-valid : (verdict : Verdict) (c : Certificate) (now : Moment)
    → AllHold (ta_validation verdict c now)
    ↔ (AllHold (ta_checks c.tbs) × IsGoodAnchor verdict c now)
unfolding ta_validation
anchor-valid verdict c now = (
  λ h. let s = hold-split (Inspection as_faults_of ta_checks c.tbs)
      (Verification as_faults_of ta_ref_checks verdict c now) h in (
        hold-hidden Inspection (ta_checks c.tbs) s.0,
        record { in_time = (s.1.0, s.1.1.0); signed = s.1.1.1.0 },
      ),
  λ h. hold-join (Inspection as_faults_of ta_checks c.tbs)
      (Verification as_faults_of ta_ref_checks verdict c now) (
        hold-shown Inspection (ta_checks c.tbs) h.0,
        (h.1.in_time.0, (h.1.in_time.1, (h.1.signed, tt))),
      ),
)

-- whatever is inspected before
pub issued-valid : (inspected : List (Check InspectionError)) (verdict : Verdict)
    (c : Certificate) (issuer : Validated) (now : Moment)
    → AllHold ((Inspection as_faults_of inspected) ++ issued_validation verdict c issuer now)
    ↔ (AllHold inspected × IsGoodUnder verdict c issuer now)
issued-valid inspected verdict c issuer now = (
  λ h. let s = hold-split (Inspection as_faults_of inspected)
      (issued_validation verdict c issuer now) h in
      let sets = s.1.1.1.1.1 in (
        hold-hidden Inspection inspected s.0,
        record {
          claimed = s.1.0;
          in_time = (s.1.1.0, s.1.1.1.0);
          signed = s.1.1.1.1.0;
          allowed = record { as_numbers = sets.0; v4 = sets.1.0; v6 = sets.1.1.0 };
        },
      ),
  λ h. let sets = h.1.allowed in
      hold-join (Inspection as_faults_of inspected)
      (issued_validation verdict c issuer now) (
        hold-shown Inspection inspected h.0,
        (
          h.1.claimed,
          (
            h.1.in_time.0,
            (
              h.1.in_time.1,
              (
                h.1.signed,
                (sets.as_numbers, (sets.v4, (sets.v6, tt))),
              ),
            ),
          ),
        ),
      ),
)

-- ---- what was validated states the identifier of its own key

pub anchor_states : (verdict : Verdict) (c : Certificate) (now : Moment)
    → AllHold (ta_validation verdict c now)
    → c.tbs.extensions.key.subject_key ≡ sha1 c.tbs.key
unfolding ta_validation
anchor_states verdict c now h = h.0

pub ca_states : (verdict : Verdict) (c : Certificate) (issuer : Validated) (now : Moment)
    → AllHold (ca_validation verdict c issuer now)
    → c.tbs.extensions.key.subject_key ≡ sha1 c.tbs.key
unfolding ca_validation
ca_states verdict c issuer now h = h.0

pub ee_states : (verdict : Verdict) (c : Certificate) (issuer : Validated) (now : Moment)
    → AllHold (ee_validation verdict c issuer now)
    → c.tbs.extensions.key.subject_key ≡ sha1 c.tbs.key
unfolding ee_validation
ee_states verdict c issuer now h = h.0

pub detached_states : (verdict : Verdict) (c : Certificate) (issuer : Validated) (now : Moment)
    → AllHold (detached_ee_validation verdict c issuer now)
    → c.tbs.extensions.key.subject_key ≡ sha1 c.tbs.key
unfolding detached_ee_validation
detached_states verdict c issuer now h = h.0
