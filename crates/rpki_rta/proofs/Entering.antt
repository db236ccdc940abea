-- Whether a carried certificate is good.
use Rattle.std.proofs.Common.{◌≡◌, Result, Ok, Err, IfOk, IfErr, None, ap, ◌∙◌}
use Rattle.std.specs.Prelude.{option_map}
use Rattle.rpki_basics.specs.Moment.{Moment}
use Rattle.rpki_faults.specs.Checks.{AllHold, IsFirstFault, AnswersFirst, ◌as_faults_of◌}
use Rattle.rpki_faults.specs.declared.validation.ValidationError.{ValidationError}
use Rattle.rpki_faults.specs.declared.validation.ValidationError.TheVariants.{Inspection}
use Rattle.rpki_faults.specs.declared.validation.ValidationError.TheVariants.{Verification}
use Rattle.rpki_faults.proofs.Order.{first-fails, hold-join, hold-split, hold-shown, hold-hidden}
use Rattle.rpki_certs.specs.Cert.{Tbs, KeptCertificate}
use Rattle.rpki_certs.specs.Verify.{Verdict, validity_checks}
use Rattle.rpki_rta.specs.Carried.{IsValid, kind_checks, is_of_ca, is_self_signed, carried_checks}
use Rattle.rpki_rta.specs.Carried.{seen_alone, seen_cert}
use Rattle.rpki_rta.specs.Begun.{cert_of}
use Rattle.rpki_rta.specs.declared.carried.Carried.{Carried as Handle}

pub carried-valid : (t : Tbs) (now : Moment) → AllHold (carried_checks t now) → IsValid t now
carried-valid t now h =
    let kind = kind_checks (is_of_ca t) (is_self_signed t) t in
    let s = hold-split (Inspection as_faults_of kind)
    (Verification as_faults_of validity_checks t.validity now) h in
    let v = hold-hidden Verification (validity_checks t.validity now) s.1 in
    (hold-hidden Inspection kind s.0, (v.0, v.1.0))

pub carried-bad : (t : Tbs) (now : Moment) (fault : ValidationError)
    → IsFirstFault (carried_checks t now) fault → ¬ (IsValid t now)
carried-bad t now fault h v =
    let kind = kind_checks (is_of_ca t) (is_self_signed t) t in
    first-fails (carried_checks t now) fault h
    (hold-join (Inspection as_faults_of kind)
    (Verification as_faults_of validity_checks t.validity now) (
      hold-shown Inspection kind v.0,
      hold-shown Verification (validity_checks t.validity now) (v.1.0, (v.1.1, tt)),
    ))

pub refused-bad : {T : Type 0} (t : Tbs) (now : Moment) (Yes : T → Type 0)
    (r : Result T ValidationError) → AnswersFirst (carried_checks t now) Yes r
    → IfErr r (λ fault. ¬ (IsValid t now))
refused-bad t now Yes (Ok value) h = tt
refused-bad t now Yes (Err fault) h = carried-bad t now fault h

-- what paths see of a new handle is what they see of the certificate alone
pub seen-same : {C : Type 0} (says : C → Verdict) (cert : KeptCertificate) (crypto : C)
    (r : Result (Handle C) ValidationError) → IfOk r (λ c. c.cert.now ≡ cert)
    → IfOk r (λ c. c.crypto.now ≡ crypto) → IfOk r (λ c. c.crl ≡ None)
    → IfOk r (λ c. cert_of says c ≡ seen_alone (says crypto) cert.certificate)
seen-same {C} says cert crypto (Ok c) e f h =
    ap (λ (x : C). seen_cert (says x) c.cert.now.certificate (option_map (λ l. l.now.list) c.crl)) f
    ∙ ap (λ (k : KeptCertificate). seen_cert (says crypto) k.certificate
    (option_map (λ l. l.now.list) c.crl)) e
    ∙ ap (λ o. seen_cert (says crypto) cert.certificate (option_map (λ l. l.now.list) o)) h
seen-same says cert crypto (Err fault) e f h = tt
