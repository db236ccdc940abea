-- What the paths of an attestation stand for together, and when it is decided.
use Rattle.std.specs.Prelude.{◌≡◌, ℕ, Bool, true, List, Option, None, Some, Result}
use Rattle.std.specs.Prelude.{Ok, Err, IsTrue, ◌||◌, not}
use Rattle.std.specs.List.{list_all, list_any}
use Rattle.rpki_resources.specs.declared.block.Block.{Block}
use Rattle.rpki_resources.specs.Blocks.{holds}
use Rattle.rpki_faults.specs.declared.family.Family.{Family}
use Rattle.rpki_faults.specs.declared.family.Family.TheVariants.{As, V4, V6}
use Rattle.rpki_paths.specs.declared.decision.Attested.{Attested}
use Rattle.rpki_paths.specs.declared.decision.FinalFault.{FinalFault}
use Rattle.rpki_paths.specs.declared.decision.FinalFault.TheVariants.{NotAnchored, AsNumbers}
use Rattle.rpki_paths.specs.declared.decision.FinalFault.TheVariants.{Addresses, Memory}
use Rattle.rpki_paths.specs.declared.decision.Union.{Union}
use Rattle.rpki_paths.specs.declared.family_resources.FamilyResources.{FamilyResources}
use Rattle.rpki_paths.specs.declared.walker.Path.{Path}
use Rattle.rpki_paths.specs.Cert.{Numbers}
use Rattle.rpki_paths.specs.Walk.{resources_in, InEach}

-- Whether the number is one of the resources of a path in a family: every number is, where all
-- certificates inherit.
abbrev pub family_has : {T : Type 0} → (T → ℕ) → Option (FamilyResources (List (Block T))) → ℕ →
    Bool
family_has f None n = true
family_has f (Some resources) n = holds f resources.met n

-- Whether it is one of what is kept of some of the paths.
abbrev pub some_has : {C : Type 0} → List (Path C) → Family → ℕ → Bool
some_has paths f n = list_any (λ p. family_has (λ k. k) (resources_in p.sets f) n) paths

-- Whether it is one of the numbers that are gathered: every number is, where not all are known.
abbrev pub union_has : {T : Type 0} → (T → ℕ) → Union T → ℕ → Bool
union_has f u n = not u.is_known || holds f u.numbers n

-- All of the paths are anchored.
abbrev pub all_anchored : {C : Type 0} → List (Path C) → Bool
all_anchored paths = list_all (λ p. p.anchored) paths

-- The sets that an attestation names.
abbrev pub attested_sets : Attested → Family → Numbers
attested_sets a As = a.asn.now
attested_sets a V4 = a.v4.now
attested_sets a V6 = a.v6.now

-- The attested set of the family has just the numbers that are kept of some path.
abbrev pub IsWhole : {C : Type 0} → List (Path C) → (Family → Numbers) → Family → Type 0
IsWhole paths attested f = (n : ℕ) → holds (λ k. k) (attested f) n ≡ some_has paths f n

-- What is answered at the end, in this order: whether all paths are anchored, whether the AS
-- numbers are those of the paths, whether the addresses are. The first that fails is answered.
-- Where memory is wanting, none of them need have failed.
abbrev pub Decides : {C : Type 0} → List (Path C) → (Family → Numbers) →
    Result (Unit {0}) FinalFault → Type 0
Decides paths attested (Ok done) =
    IsTrue (all_anchored paths) × InEach (IsWhole paths attested)
Decides paths attested (Err NotAnchored) = ¬ (IsTrue (all_anchored paths))
Decides paths attested (Err AsNumbers) =
    IsTrue (all_anchored paths) × ¬ (IsWhole paths attested As)
Decides paths attested (Err Addresses) =
    IsTrue (all_anchored paths) × IsWhole paths attested As
    × ¬ (IsWhole paths attested V4 × IsWhole paths attested V6)
Decides paths attested (Err Memory) = Unit {0}
