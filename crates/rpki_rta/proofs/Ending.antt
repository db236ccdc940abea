-- What the end answers of equal sets.
use Rattle.std.proofs.Common.{◌≡◌, List, Result, Ok, Err, sym, ap, ◌∙◌, subst}
use Rattle.rpki_faults.specs.declared.family.Family.{Family}
use Rattle.rpki_faults.specs.declared.family.Family.TheVariants.{As, V4, V6}
use Rattle.rpki_resources.specs.Blocks.{holds}
use Rattle.rpki_tagged.specs.Attestation.{Attestation}
use Rattle.rpki_paths.specs.declared.decision.Attested.{Attested}
use Rattle.rpki_paths.specs.declared.decision.FinalFault.{FinalFault}
use Rattle.rpki_paths.specs.declared.decision.FinalFault.TheVariants.{NotAnchored, AsNumbers}
use Rattle.rpki_paths.specs.declared.decision.FinalFault.TheVariants.{Addresses, Memory}
use Rattle.rpki_paths.specs.declared.walker.Path.{Path}
use Rattle.rpki_paths.specs.Cert.{Numbers}
use Rattle.rpki_paths.specs.Final.{Decides, IsWhole, attested_sets}
use Rattle.rpki_rta.specs.Granted.{attested_by}

module _ {C : Type 0} (paths : List (Path C)) (f g : Family → Numbers)
    (same : (x : Family) → f x ≡ g x) where
  over : (x : Family) → IsWhole paths f x → IsWhole paths g x
  over x w n = ap (λ s. holds (λ k. k) s n) (sym (same x)) ∙ w n

  back : (x : Family) → IsWhole paths g x → IsWhole paths f x
  back x w n = ap (λ s. holds (λ k. k) s n) (same x) ∙ w n

  decides-alike : (answer : Result (Unit {0}) FinalFault) → Decides paths f answer
      → Decides paths g answer
  decides-alike (Ok done) h = (h.0, (over As h.1.0, over V4 h.1.1, over V6 h.1.2))
  decides-alike (Err NotAnchored) h = h
  decides-alike (Err AsNumbers) h = (h.0, λ w. h.1 (back As w))
  decides-alike (Err Addresses) h =
      (h.0, over As h.1, λ w. h.2 (back V4 w.0, back V6 w.1))
  decides-alike (Err Memory) h = tt

attested-same : (s : Attested) (a : Attestation) → s.asn.now ≡ a.as_resources
    → s.v4.now ≡ a.v4_resources → s.v6.now ≡ a.v6_resources → (x : Family)
    → attested_sets s x ≡ attested_by a x
attested-same s a e f g As = e
attested-same s a e f g V4 = f
attested-same s a e f g V6 = g

pub ended : {C : Type 0} (paths lent : List (Path C)) (s : Attested) (said a : Attestation)
    (answer : Result (Unit {0}) FinalFault) → lent ≡ paths → said ≡ a
    → s.asn.now ≡ said.as_resources → s.v4.now ≡ said.v4_resources
    → s.v6.now ≡ said.v6_resources → Decides lent (attested_sets s) answer
    → Decides paths (attested_by a) answer
ended paths lent s said a answer e same as_is v4_is v6_is d =
    subst (λ k. Decides paths (attested_by k) answer) same
    (decides-alike paths (attested_sets s) (attested_by said)
    (attested-same s said as_is v4_is v6_is) answer
    (subst (λ l. Decides l (attested_sets s) answer) e d))
