-- What a whole validation answers.
use Rattle.std.proofs.Common.{◌≡◌, List, map, Result, Ok, Err, ◌∙◌, refl, subst}
use Rattle.rpki_basics.specs.Moment.{Moment}
use Rattle.rpki_faults.specs.declared.validation.ValidationError.{ValidationError}
use Rattle.rpki_certs.specs.Validate.{Validated}
use Rattle.rpki_certs.specs.Verify.{Verdict}
use Rattle.rpki_sigobj.specs.Verify.{Digester}
use Rattle.rpki_tal.specs.Tal.{Locator}
use Rattle.rpki_multi.specs.Attestation.{KeptWhole, whole_of}
use Rattle.rpki_paths.specs.declared.attestation.GrantFault.TheVariants.{NotAccepted, NotSupplied}
use Rattle.rpki_paths.specs.declared.attestation.GrantFault.TheVariants.{NotGranted}
use Rattle.rpki_paths.specs.declared.supply.Supplied.{Supplied}
use Rattle.rpki_paths.specs.declared.supply.SupplyFault.{SupplyFault}
use Rattle.rpki_paths.specs.Final.{Decides}
use Rattle.rpki_paths.specs.Supplied.{AreSuppliedAll}
use Rattle.rpki_paths.proofs.Granting.{yes_is_granted}
use Rattle.rpki_rta.specs.Begun.{Begun, EndsWith, IsBegun, IsEnded, cert_of}
use Rattle.rpki_rta.specs.Faults.{supply_answer, supply_fault}
use Rattle.rpki_rta.specs.Granted.{IsGrantedRta, attested_by, carried_by}
use Rattle.rpki_rta.specs.Refused.{BeginsWith, RefusesIn, SuppliesAll, WhyNotGrantedRta}
use Rattle.rpki_rta.specs.Refused.{WhyRefused, supply_in}

module _ {C : Type 0} (digests : C → Digester) (says : C → Verdict) (crypto : C) (now : Moment)
    (r : KeptWhole) (supplies : List (Supplied Locator Validated)) where
  -- what is not accepted is not granted, for the same cause
  pub begins-not : (fault : ValidationError)
      → WhyRefused (digests crypto) (says crypto) now (whole_of r) fault
      → WhyNotGrantedRta digests says crypto now r supplies fault
  begins-not fault h = (NotAccepted h.0, h.1, h.2)

  module _ (begun after : Begun C) (b : IsBegun digests says crypto now r begun) where
    -- the same, of the attestation itself
    begins : BeginsWith digests says crypto now r begun.paths
    begins = (
      begun.verdicts,
      record { of_rta = refl; valid = b.valid; accepted = b.accepted; heads = b.heads },
    )

    stops : (fault : ValidationError) (answer : Result (Unit {0}) (SupplyFault ValidationError))
        → Err fault ≡ supply_answer answer
        → AreSuppliedAll (cert_of says) supply_in (RefusesIn says) supplies begun.paths
        after.paths answer → WhyNotGrantedRta digests says crypto now r supplies fault
    stops fault (Ok done) e h = absurd cc
    stops fault (Err f) e h =
        let told : fault ≡ supply_fault f = cc in
        (NotSupplied f, (begun.paths, after.paths, begins, h), told)

    -- a supply that is meant for a path and does not take it ends the validation
    pub supplies-not : (fault : ValidationError)
        → SuppliesAll says supplies begun after (Err fault)
        → WhyNotGrantedRta digests says crypto now r supplies fault
    supplies-not fault h = stops fault h.answer h.told h.all

    supplied-so : (answer : Result (Unit {0}) (SupplyFault ValidationError))
        → Ok tt ≡ supply_answer answer
        → AreSuppliedAll (cert_of says) supply_in (RefusesIn says) supplies begun.paths
        after.paths answer
        → AreSuppliedAll (cert_of says) supply_in (RefusesIn says) supplies begun.paths
        after.paths (Ok tt)
    supplied-so (Ok done) e h = h
    supplied-so (Err f) e h = absurd cc

    module _ (s : SuppliesAll says supplies begun after (Ok tt)) where
      decided : (answer : _) → Decides after.paths (attested_by after.rta.content) answer
          → Decides after.paths (attested_by r.content) answer
      decided answer d =
          subst (λ (k : KeptWhole). Decides after.paths (attested_by k.content) answer)
          (s.of_rta ∙ b.of_rta) d

      pub ends-so : IsEnded after
          → IsGrantedRta (digests crypto) (says crypto) now (whole_of r) (map supply_in supplies)
      ends-so d =
          let acc = b.accepted in
          record {
            valid = b.valid;
            granted = yes_is_granted (cert_of says) supply_in (RefusesIn says)
                (carried_by (digests crypto) (says crypto) (whole_of r)) acc.ees acc.crls
                begun.paths after.paths supplies (attested_by r.content) acc.valid
                acc.paired.matching acc.walked (supplied-so s.answer s.told s.all)
                (decided (Ok tt) d);
          }

      -- what the end says no to is not granted
      pub ends-not : (fault : ValidationError) → EndsWith after fault
          → WhyNotGrantedRta digests says crypto now r supplies fault
      ends-not fault h = (
        NotGranted h.0,
        (
          begun.paths,
          after.paths,
          begins,
          supplied-so s.answer s.told s.all,
          decided (Err h.0) h.1,
        ),
        h.2,
      )
