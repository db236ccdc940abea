-- What is begun is accepted, and what is refused is not.
use Rattle.std.proofs.Common.{◌≡◌, List, map, All, refl, ap, ◌∙◌}
use Rattle.rpki_basics.specs.Moment.{Moment}
use Rattle.rpki_faults.specs.Checks.{IsFirstFault}
use Rattle.rpki_faults.specs.declared.validation.ValidationError.{ValidationError}
use Rattle.rpki_faults.specs.declared.validation.ValidationError.TheVariants.{Memory}
use Rattle.rpki_certs.specs.Validate.{Validated}
use Rattle.rpki_certs.specs.Verify.{Verdict}
use Rattle.rpki_sigobj.specs.Verify.{Digester}
use Rattle.rpki_tal.specs.Tal.{Locator}
use Rattle.rpki_multi.specs.Attestation.{KeptWhole, Whole, whole_of}
use Rattle.rpki_paths.specs.declared.acceptance.AcceptFault.{AcceptFault}
use Rattle.rpki_paths.specs.declared.acceptance.AcceptFault.TheVariants as why
use Rattle.rpki_paths.specs.declared.attestation.GrantFault.{GrantFault}
use Rattle.rpki_paths.specs.declared.attestation.GrantFault.TheVariants.{NotAccepted, NotSupplied}
use Rattle.rpki_paths.specs.declared.attestation.GrantFault.TheVariants.{NotGranted}
use Rattle.rpki_paths.specs.declared.supply.Supplied.{Supplied}
use Rattle.rpki_paths.specs.declared.walker.Path.{Path}
use Rattle.rpki_paths.specs.Accepting.{AreAccepted, WantsMemory}
use Rattle.rpki_paths.specs.Cert.{Cert}
use Rattle.rpki_paths.specs.Granting.{WhyNotGranted}
use Rattle.rpki_paths.proofs.Accepting.{refusal_is_right}
use Rattle.rpki_paths.proofs.Granting.{walks_are_accepted, unsupplied_is_refused}
use Rattle.rpki_paths.proofs.Granting.{undecided_is_refused}
use Rattle.rpki_rta.specs.Begun.{cert_of}
use Rattle.rpki_rta.specs.Carried.{IsValid, carried_checks, is_of_ca, seen_alone}
use Rattle.rpki_rta.specs.Faults.{accept_fault, grant_fault, supply_fault, final_fault}
use Rattle.rpki_rta.specs.Granted.{DeniesRightly, IsAcceptedRta, IsDistinct, IsGrantedRta}
use Rattle.rpki_rta.specs.Granted.{RefusesRightly, attested_by, carried_by}
use Rattle.rpki_rta.specs.Refused.{BeginsWith, RefusesIn, WhyNotAccepted, WhyRefused}
use Rattle.rpki_rta.specs.Refused.{WhyNotGrantedRta, supply_in}

pub is-accepted : {C : Type 0} (cert : C → Cert) (digest : Digester) (verdict : Verdict)
    (now : Moment) (r : Whole) (kept : List (Path C)) → All (λ c. IsValid c.tbs now) r.signed.certs
    → AreAccepted cert (carried_by digest verdict r) kept → IsAcceptedRta digest verdict now r
is-accepted cert digest verdict now r kept valid a = record {
  valid = valid;
  paths = a.walked.paths;
  accepted = walks_are_accepted cert (carried_by digest verdict r) a.ees a.crls kept a.valid
      a.paired.matching a.walked;
}

told-memory : (cause : AcceptFault ValidationError) → WantsMemory cause
    → accept_fault cause ≡ Memory
told-memory (why.NotGood fault) m = absurd m
told-memory why.NoCrl m = absurd m
told-memory why.NoKey m = absurd m
told-memory why.Digest m = absurd m
told-memory why.NoCert m = absurd m
told-memory why.KeysLeft m = absurd m
told-memory why.CrlsLeft m = absurd m
told-memory why.CertsLeft m = absurd m
told-memory (why.Walks fault) m = ap (λ f. accept_fault (why.Walks f)) m
told-memory why.Memory m = refl

-- a cause but want of memory is right
cause-right : (digest : Digester) (verdict : Verdict) (now : Moment) (r : Whole)
    (cause : AcceptFault ValidationError) → WhyNotAccepted digest verdict now r cause
    → ¬ (accept_fault cause ≡ Memory) → IsDistinct digest verdict r
    → ¬ (IsAcceptedRta digest verdict now r)
cause-right digest verdict now r cause h other dist acc =
    refusal_is_right (λ c. IsValid c.tbs now)
    (λ c fault. IsFirstFault (carried_checks c.tbs now) fault) (seen_alone verdict)
    (λ c. is_of_ca c.tbs) r.signed.certs (carried_by digest verdict r) cause acc.paths refl dist
    (λ m. other (told-memory cause m)) h acc.valid acc.accepted

pub why-refused : (digest : Digester) (verdict : Verdict) (now : Moment) (r : Whole)
    (fault : ValidationError) → WhyRefused digest verdict now r fault
    → RefusesRightly digest verdict now r fault
why-refused digest verdict now r fault h other dist acc =
    cause-right digest verdict now r h.0 h.1 (λ e. other (h.2 ∙ e)) dist acc

module _ {C : Type 0} (digests : C → Digester) (says : C → Verdict) (crypto : C) (now : Moment)
    (r : KeptWhole) (supplies : List (Supplied Locator Validated)) where
  not-granted : (cause : GrantFault ValidationError ValidationError)
      → WhyNotGranted (WhyNotAccepted (digests crypto) (says crypto) now (whole_of r))
      (BeginsWith digests says crypto now r) (cert_of says) supply_in (RefusesIn says) supplies (attested_by r.content) cause
      → ¬ (grant_fault cause ≡ Memory)
      → IsDistinct (digests crypto) (says crypto) (whole_of r)
      → ¬ (IsGrantedRta (digests crypto) (says crypto) now (whole_of r) (map supply_in supplies))
  not-granted (NotAccepted c) w other dist g =
      cause-right (digests crypto) (says crypto) now (whole_of r) c w other dist
      (record { valid = g.valid; paths = g.granted.paths; accepted = g.granted.accepted })
  not-granted (NotSupplied c) w other dist g =
      let acc = w.2.1.accepted in
      unsupplied_is_refused (cert_of says) supply_in (RefusesIn says)
      (carried_by (digests crypto) (says crypto) (whole_of r)) acc.ees acc.crls w.0 w.1 supplies
      (attested_by r.content) c dist acc.paired.matching acc.walked
      (λ m. other (ap supply_fault m)) w.3 g.granted
  not-granted (NotGranted c) w other dist g =
      let acc = w.2.1.accepted in
      undecided_is_refused (cert_of says) supply_in (RefusesIn says)
      (carried_by (digests crypto) (says crypto) (whole_of r)) acc.ees acc.crls w.0 w.1 supplies
      (attested_by r.content) c dist acc.paired.matching acc.walked
      (λ m. other (ap final_fault m)) w.3 w.4 g.granted

  pub why-not-granted : (fault : ValidationError)
      → WhyNotGrantedRta digests says crypto now r supplies fault
      → DeniesRightly (digests crypto) (says crypto) now (map supply_in supplies) (whole_of r) fault
  why-not-granted fault h other dist g = not-granted h.0 h.1 (λ e. other (h.2 ∙ e)) dist g
