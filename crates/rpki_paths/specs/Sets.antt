-- The explicit sets of one family along a path, and what all of them have.
use Rattle.std.specs.Prelude.{◌≡◌, ℕ, Bool, true, List, [], ◌∷◌, ◌&&◌, Option, None, Some, ◌⊎◌}
use Rattle.rpki_resources.specs.declared.block.Block.{Block}
use Rattle.rpki_resources.specs.declared.resources.Claim.{Claim}
use Rattle.rpki_resources.specs.declared.resources.Claim.TheVariants.{Missing, Inherit, Explicit}
use Rattle.rpki_resources.specs.Blocks.{holds, IsIntersection}
use Rattle.rpki_resources.specs.Claim.{HasBlocks, IsCoveredBy}
use Rattle.rpki_faults.specs.declared.overclaim.Overclaim.{Overclaim}
use Rattle.rpki_faults.specs.declared.overclaim.Overclaim.TheVariants.{Refuse, Trim}
use Rattle.rpki_paths.specs.declared.family_resources.FamilyResources.{FamilyResources}

-- The sets of a family with the set of one more claim above them. A family that is not named is the
-- empty set, and an inherited one adds none (RFC 3779, sections 2.2.3.5 and 3.2.3.3).
abbrev pub with_claim : {T : Type 0} → Claim (List (Block T)) → List (List (Block T)) →
    List (List (Block T))
with_claim Missing sets = [] ∷ sets
with_claim Inherit sets = sets
with_claim (Explicit set) sets = set ∷ sets

-- Whether the number lies in each of the sets; f tells the number of an end of a block.
abbrev pub meet : {T : Type 0} → (T → ℕ) → List (List (Block T)) → ℕ → Bool
meet f [] n = true
meet f (set ∷ sets) n = holds f set n && meet f sets n

-- Under Refuse, the nearest explicit set at or below a certificate lies in what its issuer claims
-- (RFC 6487, section 7.2). Under Trim nothing is asked (RFC 8360, section 4.2).
abbrev pub IsCovered : {T : Type 0} → (T → ℕ) → Overclaim → List (List (Block T)) →
    Claim (List (Block T)) → Type 0
IsCovered f Refuse [] claim = Unit {0}
IsCovered f Refuse (nearest ∷ below) claim = IsCoveredBy f claim nearest
IsCovered f Trim sets claim = Unit {0}

-- The resources of a path in one family stand for its explicit sets, the head's first: none where
-- all inherit; else a set with just the numbers that all of them have, and the nearest of them.
abbrev pub StandsFor : {T : Type 0} → (T → ℕ) → Option (FamilyResources (List (Block T))) →
    List (List (Block T)) → Type 0
StandsFor f None sets = sets ≡ []
StandsFor f (Some resources) [] = ⊥
StandsFor f (Some resources) (set ∷ sets) =
    (resources.nearest_explicit ≡ set)
    × ((n : ℕ) → holds f resources.met n ≡ meet f (set ∷ sets) n)

-- The nearest explicit set of these resources, alone, or none.
abbrev pub nearest_of : {T : Type 0} → Option (FamilyResources (List (Block T))) →
    List (List (Block T))
nearest_of None = []
nearest_of (Some resources) = resources.nearest_explicit ∷ []

-- The claim covers the nearest explicit set, where it has to.
abbrev pub CoversNearest : {T : Type 0} → (T → ℕ) → Overclaim →
    Option (FamilyResources (List (Block T))) → Claim (List (Block T)) → Type 0
CoversNearest f mode resources claim = IsCovered f mode (nearest_of resources) claim

-- How the numbers that all sets have change under one more explicit set: Trim cuts them to it, and
-- Refuse leaves them.
abbrev pub IsCut : {T : Type 0} → (T → ℕ) → Overclaim → List (Block T) → List (Block T) →
    List (Block T) → Type 0
IsCut f Trim met set cut = IsIntersection f met set cut
IsCut f Refuse met set cut = cut ≡ met

-- The resources of a path when one more explicit set, set, comes above a head of this mode: set
-- alone where there were none (old); else the old ones, cut to the numbers of set under Trim and as
-- they are under Refuse. The nearest explicit set is set.
abbrev pub IsWithSet : {T : Type 0} → (T → ℕ) → Overclaim →
    Option (FamilyResources (List (Block T))) → List (Block T) →
    Option (FamilyResources (List (Block T))) → Type 0
IsWithSet f mode old set None = ⊥
IsWithSet f mode None set (Some new) = (new.met ≡ set) × (new.nearest_explicit ≡ set)
IsWithSet f mode (Some old) set (Some new) =
    IsCut f mode old.met set new.met × (new.nearest_explicit ≡ set)

-- The resources with one more claim above a head of this mode: an inherited one changes nothing.
abbrev pub IsWithClaim : {T : Type 0} → (T → ℕ) → Overclaim →
    Option (FamilyResources (List (Block T))) → Claim (List (Block T)) →
    Option (FamilyResources (List (Block T))) → Type 0
IsWithClaim {T} f mode old claim new =
    ((claim ≡ Inherit) × (new ≡ old))
    ⊎ ((set : List (Block T)) × HasBlocks claim set × IsWithSet f mode old set new)
