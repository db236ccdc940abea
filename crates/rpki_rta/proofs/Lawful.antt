-- After any supplies, refused ones among them.
use Rattle.std.proofs.Common.{◌≡◌, List, [], ◌∷◌, ◌++◌, map, Bool, Result, Ok, Err, refl, sym, ap}
use Rattle.std.proofs.Common.{◌∙◌, subst}
use Rattle.rpki_faults.specs.declared.validation.ValidationError.{ValidationError}
use Rattle.rpki_certs.specs.Verify.{Verdict}
use Rattle.rpki_sigobj.specs.Verify.{Digester}
use Rattle.rpki_multi.specs.Attestation.{KeptWhole, whole_of}
use Rattle.rpki_paths.specs.declared.supply.SupplyFault.{SupplyFault}
use Rattle.rpki_paths.specs.After.{AreAfter, AreKeptBySome, IsGrantedBySome}
use Rattle.rpki_paths.specs.Grant.{IsGranted}
use Rattle.rpki_paths.specs.Supplied.{AnswersEach, AreSuppliedAll}
use Rattle.rpki_paths.specs.Anchor.{Supply}
use Rattle.rpki_paths.specs.Final.{Decides}
use Rattle.rpki_paths.proofs.After.{all_keep_some, keeps-numbers, kept_is_kept_by_some}
use Rattle.rpki_paths.proofs.After.{yes_after_refusals}
use Rattle.rpki_paths.proofs.Granting.{yes_is_granted as paths-granted, unsupplied_is_refused}
use Rattle.rpki_paths.proofs.Granting.{undecided_is_refused, walks_are_accepted}
use Rattle.rpki_paths.proofs.Keeps.{all-stops}
use Rattle.rpki_rta.specs.Begun.{Begun, Refuses, cert_of}
use Rattle.rpki_rta.specs.Faults.{final_fault, supply_answer, supply_fault}
use Rattle.rpki_rta.specs.Granted.{attested_by, carried_by}
use Rattle.rpki_rta.specs.Laws.{AreAfterSupplies, AreTaken, EndAfterSupplies, NoIsRight}
use Rattle.rpki_rta.specs.Laws.{RefusedSupplyIsRight, YesAfterSupplies, YesIsGranted}

same-list : {A : Type 0} (xs : List A) → map (λ x. x) xs ≡ xs
same-list [] = refl
same-list (x ∷ xs) = ap (λ l. x ∷ l) (same-list xs)

-- an answer of the whole tells that of the paths
told-ok : {A : Type 0} (answer : Result A (SupplyFault ValidationError)) (all : A)
    → Ok all ≡ supply_answer answer → answer ≡ Ok all
told-ok (Ok done) all e = cc
told-ok (Err f) all e = absurd cc

module _ {C : Type 0} (says : C → Verdict) where
  paths-after : (supplies : List Supply) (old new : Begun C)
      → AreAfterSupplies says supplies old new
      → AreAfter (cert_of says) (λ s. s) (Refuses says) supplies old.paths new.paths
  paths-after [] old new h = ap (λ (v : Begun C). v.paths) h
  paths-after (s ∷ supplies) old new h =
      (h.0.paths, h.2.answer, h.2.each, paths-after supplies h.0 new h.3)

  rta-after : (supplies : List Supply) (old new : Begun C) → AreAfterSupplies says supplies old new
      → new.rta ≡ old.rta
  rta-after [] old new h = ap (λ (v : Begun C). v.rta) h
  rta-after (s ∷ supplies) old new h = rta-after supplies h.0 new h.3 ∙ h.2.of_rta

  pub yes_after_supplies : (digests : C → Digester) → YesAfterSupplies digests says
  yes_after_supplies digests crypto now r supplies begun end b after ended =
      let a = carried_by (digests crypto) (says crypto) (whole_of r) in
      let acc = b.accepted in
      let decided : Decides end.paths (attested_by r.content) (Ok tt) =
      subst (λ (k : KeptWhole). Decides end.paths (attested_by k.content) (Ok tt))
      (rta-after supplies begun end after ∙ b.of_rta) ended in
      record {
        valid = b.valid;
        granted = subst (λ l. IsGrantedBySome a l (attested_by r.content)) (same-list supplies)
            (yes_after_refusals (cert_of says) (λ s. s) (Refuses says) a acc.ees acc.crls
            begun.paths end.paths supplies (attested_by r.content) acc.valid acc.paired.matching
            acc.walked (paths-after supplies begun end after) decided);
      }

  pub end_after_supplies : (digests : C → Digester) → EndAfterSupplies digests says
  end_after_supplies digests crypto now r supplies begun end b after =
      let a = carried_by (digests crypto) (says crypto) (whole_of r) in
      let acc = b.accepted in
      let w = acc.walked in
      let held = subst (λ l. AreKeptBySome (cert_of says) l end.paths w.paths) (same-list supplies)
      (all_keep_some (cert_of says) (λ s. s) (Refuses says) supplies [] begun.paths end.paths
      w.paths (paths-after supplies begun end after)
      (kept_is_kept_by_some (cert_of says) [] begun.paths w.paths w.are_kept)) in (
        rta-after supplies begun end after ∙ b.of_rta,
        record {
          valid = b.valid;
          paths = w.paths;
          accepted = walks_are_accepted (cert_of says) a acc.ees acc.crls begun.paths acc.valid
              acc.paired.matching w;
        },
        held,
        keeps-numbers (cert_of says) supplies end.paths w.paths held,
      )

  -- ---- supplies of which none is refused

  paths-taken : (supplies : List Supply) (old new : Begun C) → AreTaken says supplies old new
      → AreSuppliedAll (cert_of says) (λ s. s) (Refuses says) supplies old.paths new.paths (Ok tt)
  paths-taken [] old new h = ap (λ (v : Begun C). v.paths) h
  paths-taken (s ∷ supplies) old new h = (
    h.0.paths,
    h.1,
    subst (λ a. AnswersEach (cert_of says) (Refuses says s) s old.paths h.0.paths a)
        (told-ok h.2.answer h.1 h.2.told) h.2.each,
    paths-taken supplies h.0 new h.3,
  )

  rta-taken : (supplies : List Supply) (old new : Begun C) → AreTaken says supplies old new
      → new.rta ≡ old.rta
  rta-taken [] old new h = ap (λ (v : Begun C). v.rta) h
  rta-taken (s ∷ supplies) old new h = rta-taken supplies h.0 new h.3 ∙ h.2.of_rta

  pub yes_is_granted : (digests : C → Digester) → YesIsGranted digests says
  yes_is_granted digests crypto now r supplies begun end b taken ended =
      let a = carried_by (digests crypto) (says crypto) (whole_of r) in
      let acc = b.accepted in
      let decided : Decides end.paths (attested_by r.content) (Ok tt) =
      subst (λ (k : KeptWhole). Decides end.paths (attested_by k.content) (Ok tt))
      (rta-taken supplies begun end taken ∙ b.of_rta) ended in
      record {
        valid = b.valid;
        granted = subst (λ l. IsGranted a l (attested_by r.content)) (same-list supplies)
            (paths-granted (cert_of says) (λ s. s) (Refuses says) a acc.ees acc.crls begun.paths
            end.paths supplies (attested_by r.content) acc.valid acc.paired.matching acc.walked
            (paths-taken supplies begun end taken) decided);
      }

  stops-at : (supplies : List Supply) (s : Supply) (more : List Supply) (begun old new : Begun C)
      (fault : ValidationError) (answer : Result Bool (SupplyFault ValidationError))
      → AreTaken says supplies begun old → Err fault ≡ supply_answer answer
      → AnswersEach (cert_of says) (Refuses says s) s old.paths new.paths answer
      → (f : SupplyFault ValidationError) × (fault ≡ supply_fault f)
      × AreSuppliedAll (cert_of says) (λ s. s) (Refuses says) (supplies ++ s ∷ more) begun.paths
      new.paths (Err f)
  stops-at supplies s more begun old new fault (Ok all) taken e h = absurd cc
  stops-at supplies s more begun old new fault (Err f) taken e h = (
    f,
    cc,
    all-stops (cert_of says) (λ s. s) (Refuses says) supplies s more begun.paths old.paths
        new.paths f (paths-taken supplies begun old taken) h,
  )

  pub refused_supply_is_right : (digests : C → Digester) → RefusedSupplyIsRight digests says
  refused_supply_is_right digests crypto now r supplies s more begun old new fault b =
      λ taken refused other dist g. (
      let a = carried_by (digests crypto) (says crypto) (whole_of r) in
      let acc = b.accepted in
      let t =
      stops-at supplies s more begun old new fault refused.answer taken refused.told refused.each in
      unsupplied_is_refused (cert_of says) (λ s. s) (Refuses says) a acc.ees acc.crls begun.paths
      new.paths (supplies ++ s ∷ more) (attested_by r.content) t.0 dist acc.paired.matching
      acc.walked (λ m. other (t.1 ∙ ap supply_fault m)) t.2
      (subst (λ l. IsGranted a l (attested_by r.content)) (sym (same-list (supplies ++ s ∷ more)))
      g.granted))

  pub no_is_right : (digests : C → Digester) → NoIsRight digests says
  no_is_right digests crypto now r supplies begun end fault b taken ended other dist g =
      let a = carried_by (digests crypto) (says crypto) (whole_of r) in
      let acc = b.accepted in
      let decided : Decides end.paths (attested_by r.content) (Err ended.0) =
      subst (λ (k : KeptWhole). Decides end.paths (attested_by k.content) (Err ended.0))
      (rta-taken supplies begun end taken ∙ b.of_rta) ended.1 in
      undecided_is_refused (cert_of says) (λ s. s) (Refuses says) a acc.ees acc.crls begun.paths
      end.paths supplies (attested_by r.content) ended.0 dist acc.paired.matching acc.walked
      (λ m. other (ended.2 ∙ ap final_fault m)) (paths-taken supplies begun end taken) decided
      (subst (λ l. IsGranted a l (attested_by r.content)) (sym (same-list supplies)) g.granted)
