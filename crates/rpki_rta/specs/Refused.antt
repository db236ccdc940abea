-- Why an attestation is refused, in the order of what is asked (draft-michaelson-rpki-rta).
use Rattle.std.specs.Prelude.{◌≡◌, ℕ, List, Result}
use Rattle.rpki_basics.specs.Moment.{Moment}
use Rattle.rpki_faults.specs.Checks.{IsFirstFault}
use Rattle.rpki_faults.specs.declared.validation.ValidationError.{ValidationError}
use Rattle.rpki_certs.specs.Validate.{Validated}
use Rattle.rpki_certs.specs.Verify.{Verdict}
use Rattle.rpki_sigobj.specs.Verify.{Digester}
use Rattle.rpki_tal.specs.Tal.{Locator}
use Rattle.rpki_multi.specs.Attestation.{KeptWhole, Whole, whole_of}
use Rattle.rpki_paths.specs.declared.acceptance.AcceptFault.{AcceptFault}
use Rattle.rpki_paths.specs.declared.attestation.GrantFault.{GrantFault}
use Rattle.rpki_paths.specs.declared.supply.Supplied.{Supplied}
use Rattle.rpki_paths.specs.declared.supply.SupplyFault.{SupplyFault}
use Rattle.rpki_paths.specs.Accepting.{WhyNot}
use Rattle.rpki_paths.specs.Anchor.{Supply}
use Rattle.rpki_paths.specs.Granting.{WhyNotGranted}
use Rattle.rpki_paths.specs.declared.walker.Path.{Path}
use Rattle.rpki_paths.specs.Supplied.{AreSuppliedAll, refusal_of, supply_of}
use Rattle.rpki_rta.specs.Carried.{IsValid, carried_checks, is_of_ca, seen_alone, set_of}
use Rattle.rpki_rta.specs.Granted.{attested_by, carried_by}
use Rattle.rpki_rta.specs.Faults.{accept_fault, grant_fault, supply_answer}
use Rattle.rpki_rta.specs.Begun.{Begun, IsBegun, RefusesHead, cert_of}
use Rattle.rpki_rta.specs.declared.carried.Carried.{Carried as Handle}

-- Why what is carried is not accepted. Certificate by certificate, in carried order: it is not
-- valid, and the fault is the first of its checks (`carried_checks`); or it is that of a CA, and no
-- list that is left is its own. Then signer by signer: no subject key that is left is its own; its
-- digest is not that of the content; no certificate that is left verifies it. Then subject keys,
-- lists, certificates of end entities are left over. Then the walks are refused. All before the
-- first that fails passed.
abbrev pub WhyNotAccepted : Digester → Verdict → Moment → Whole → AcceptFault ValidationError →
    Type 0
WhyNotAccepted digest verdict now r fault =
    WhyNot (λ c. IsValid c.tbs now) (λ c fault. IsFirstFault (carried_checks c.tbs now) fault)
    (seen_alone verdict) (λ c. is_of_ca c.tbs) r.signed.certs (carried_by digest verdict r) fault

-- Why an attestation is refused: the first thing that fails, told as its fault.
abbrev pub WhyRefused : Digester → Verdict → Moment → Whole → ValidationError → Type 0
WhyRefused digest verdict now r fault =
    (cause : AcceptFault ValidationError) × WhyNotAccepted digest verdict now r cause
    × (fault ≡ accept_fault cause)

-- what is supplied
abbrev pub supply_in : Supplied Locator Validated → Supply
supply_in s =
    supply_of (λ t. t.key) (λ v. v.cert.certificate.tbs.extensions.key.subject_key)
    (λ v. v.cert.certificate.tbs.key) (λ v. set_of v.sets) s

-- the faults that what is supplied gives of a head
abbrev pub RefusesIn : {C : Type 0} → (C → Verdict) → Supplied Locator Validated → Handle C →
    ValidationError → Type 0
RefusesIn says s = refusal_of (λ t. RefusesHead says) s

-- What several supplies answer, handed in one after the other, up to the first that is meant for a
-- path and does not take it, with the fault told as that of the whole, and what they leave. The
-- attestation stays.
pub record SuppliesAll {C : Type 0} (says : C → Verdict)
    (supplies : List (Supplied Locator Validated)) (old new : Begun C)
    (result : Result (Unit {0}) ValidationError) : Type 0 where
  pub of_rta : new.rta ≡ old.rta
  pub answer : Result (Unit {0}) (SupplyFault ValidationError)
  pub all : AreSuppliedAll (cert_of says) supply_in (RefusesIn says) supplies old.paths new.paths
      answer
  pub told : result ≡ supply_answer answer

-- The validation of this attestation begins with these paths, whatever number of verdicts it asks.
abbrev pub BeginsWith : {C : Type 0} → (C → Digester) → (C → Verdict) → C → Moment → KeptWhole →
    List (Path (Handle C)) → Type 0
BeginsWith digests says crypto now r paths =
    (n : ℕ) × IsBegun digests says crypto now r (record { rta = r; paths = paths; verdicts = n })

-- Why an attestation is not granted under some supplies, handed in one after the other: it is not
-- accepted; or its validation begins, and a supply is meant for a path and does not take it, as
-- those before it left them; or none is such, and the end says no. The first thing that fails is
-- told as its fault.
abbrev pub WhyNotGrantedRta : {C : Type 0} → (C → Digester) → (C → Verdict) → C → Moment →
    KeptWhole → List (Supplied Locator Validated) → ValidationError → Type 0
WhyNotGrantedRta digests says crypto now r supplies fault =
    (cause : GrantFault ValidationError ValidationError)
    × WhyNotGranted (WhyNotAccepted (digests crypto) (says crypto) now (whole_of r))
    (BeginsWith digests says crypto now r) (cert_of says) supply_in (RefusesIn says) supplies (attested_by r.content) cause
    × (fault ≡ grant_fault cause)
