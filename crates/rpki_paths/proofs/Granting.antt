-- What walks, supplies and the end say of an attestation.
use Rattle.std.proofs.Common.{◌≡◌, List, [], map, Ok, Err, refl, sym, subst}
use Rattle.rpki_faults.specs.declared.family.Family.{Family}
use Rattle.rpki_paths.specs.declared.decision.FinalFault.{FinalFault}
use Rattle.rpki_paths.specs.declared.decision.FinalFault.TheVariants.{NotAnchored, AsNumbers}
use Rattle.rpki_paths.specs.declared.decision.FinalFault.TheVariants.{Addresses, Memory}
use Rattle.rpki_paths.specs.declared.walker.Path.{Path}
use Rattle.rpki_paths.specs.declared.walks.WalksFault.TheVariants.{NoPath, Unused}
use Rattle.rpki_paths.specs.declared.walks.WalksFault.TheVariants.{Memory as OutOfMemory}
use Rattle.rpki_paths.specs.Cert.{Cert, Numbers, IsIn, NoTwice, at_place}
use Rattle.rpki_paths.specs.Path.{IsPath, IsDistinct}
use Rattle.rpki_paths.specs.Pairing.{Carried, Crl, IsMatching, IsPairing, HasDistinctIds}
use Rattle.rpki_paths.specs.Pairing.{IsVerifiedBy, HasCrl}
use Rattle.rpki_paths.specs.Grant.{authorities, HasPaths}
use Rattle.rpki_paths.specs.Anchor.{Supply}
use Rattle.rpki_paths.specs.Kept.{AreWalked}
use Rattle.rpki_paths.specs.Final.{Decides}
use Rattle.rpki_paths.specs.Laws.{WalksAreAccepted, YesIsGranted, RefusedIsNotAccepted}
use Rattle.rpki_paths.specs.Laws.{UnsuppliedIsRefused, UndecidedIsRefused}
use Rattle.rpki_paths.proofs.Pairings.{all-partners, partners-in}
use Rattle.rpki_paths.proofs.Matches.{crls_are_unique}
use Rattle.rpki_paths.proofs.Walking.{get-in, refused_has_no_path}
use Rattle.rpki_paths.proofs.WalkingEach.{in-last}
use Rattle.rpki_paths.proofs.Grants.{same-skis, path-at, acceptance_is_decided, grant_is_decided}
use Rattle.rpki_paths.proofs.Grants.{unanchored_is_refused}
use Rattle.rpki_paths.proofs.Finals.{final_is_decided}
use Rattle.rpki_paths.proofs.Keeps.{all_are_kept, refused_is_unanchored}

pub distinct-authorities : (a : Carried) (crls : List Crl) → HasDistinctIds a
    → IsPairing HasCrl a.cas crls a.crls → IsDistinct (authorities a crls)
distinct-authorities a crls dist pairing =
    subst (λ l. NoTwice l) (sym (same-skis 1 a.cas crls a.crls pairing)) dist.of_cas

pub refused_is_not_accepted : RefusedIsNotAccepted
refused_is_not_accepted a ees crls (NoPath fault) dist m other h paths acc =
    let same : crls ≡ acc.found.crls =
    crls_are_unique a ees acc.found.ees crls acc.found.crls dist m acc.found.matching in
    let e = h.ee in
    let mine : IsIn e ees = subst (λ l. IsIn e l) (sym h.parts) (in-last e h.done h.more) in
    let theirs : IsIn e acc.found.ees =
    all-partners IsVerifiedBy a.signers acc.found.ees a.ees acc.found.matching.signed e
    (partners-in IsVerifiedBy a.signers ees a.ees m.signed e mine) in
    let t = path-at (authorities a acc.found.crls) acc.found.ees paths acc.found.stand e theirs in
    refused_has_no_path fault (authorities a crls) (at_place 0 e) t.0 h.not_memory
    (distinct-authorities a crls dist m.crl_of) h.refused
    (subst (λ l. IsPath (authorities a l) (at_place 0 e) t.0) (sym same) t.2) t.3
refused_is_not_accepted a ees crls (Unused place) dist m other h paths acc =
    let found : HasPaths a h.paths =
    record { ees = ees; crls = crls; matching = m; stand = h.stand } in
    let used = (acceptance_is_decided a h.paths found dist).0 (paths, acc) in
    h.unused (used.1 h.ca (get-in (authorities a crls) place h.ca h.at_index))
refused_is_not_accepted a ees crls OutOfMemory dist m other h paths acc = other refl

module _ {C : Type 0} (cert : C → Cert) where
  found-of : (a : Carried) (ees : List Cert) (crls : List Crl) (kept : List (Path C))
      → IsMatching a ees crls → (w : AreWalked cert (authorities a crls) ees kept)
      → HasPaths a w.paths
  found-of a ees crls kept m w =
      record { ees = ees; crls = crls; matching = m; stand = w.stand }

  pub walks_are_accepted : WalksAreAccepted cert
  unfolding found-of
  walks_are_accepted a ees crls kept valid m w = record {
    valid = valid;
    found = found-of a ees crls kept m w;
    used = w.used;
  }

not-decided : {C : Type 0} (kept : List (Path C)) (attested : Family → Numbers)
    (fault : FinalFault) → ¬ (fault ≡ Memory) → Decides kept attested (Err fault)
    → ¬ (Decides kept attested (Ok tt))
not-decided kept attested NotAnchored other h d = h d.0
not-decided kept attested AsNumbers other h d = h.1 d.1.0
not-decided kept attested Addresses other h d = h.2 (d.1.1, d.1.2)
not-decided kept attested Memory other h d = other refl

module _ {X C F : Type 0} (cert : C → Cert) (of : X → Supply) (refuses : X → C → F → Type 0) where
  pub yes_is_granted : YesIsGranted cert of refuses
  yes_is_granted a ees crls walked kept xs attested valid m w supplied d = record {
    paths = w.paths;
    accepted = walks_are_accepted cert a ees crls walked valid m w;
    earned = (final_is_decided cert (map of xs) kept w.paths attested
        (all_are_kept cert of refuses xs [] walked kept w.paths supplied w.are_kept)).1 d;
  }

  pub unsupplied_is_refused : UnsuppliedIsRefused cert of refuses
  unsupplied_is_refused a ees crls walked kept xs attested fault dist m w other supplied =
      let t = refused_is_unanchored cert of refuses xs [] walked kept w.paths fault other supplied
      w.are_kept in
      unanchored_is_refused a w.paths t.0 (map of xs) attested dist
      (found-of cert a ees crls walked m w) t.1 t.2

  pub undecided_is_refused : UndecidedIsRefused cert of refuses
  undecided_is_refused a ees crls walked kept xs sets fault dist m w other supplied h g =
      let accepted = walks_are_accepted cert a ees crls walked g.accepted.valid m w in
      let earned = (grant_is_decided a w.paths (map of xs) sets dist accepted).0 g in
      not-decided kept sets fault other h
      ((final_is_decided cert (map of xs) kept w.paths sets
      (all_are_kept cert of refuses xs [] walked kept w.paths supplied w.are_kept)).0 earned)
