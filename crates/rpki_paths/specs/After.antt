-- What is kept of paths after any supplies, and when it decides. Refused supplies are among them: a
-- supply that one path does not take is handed in to the paths before it all the same, and the path
-- may take a later one.
use Rattle.std.specs.Prelude.{◌≡◌, ◌↔◌, ℕ, Bool, true, false, List, [], ◌∷◌, Result}
use Rattle.rpki_resources.specs.Blocks.{holds}
use Rattle.rpki_faults.specs.declared.family.Family.{Family}
use Rattle.rpki_paths.specs.declared.path_resources.PathResources.{PathResources}
use Rattle.rpki_paths.specs.declared.supply.SupplyFault.{SupplyFault}
use Rattle.rpki_paths.specs.declared.walker.Path.{Path}
use Rattle.rpki_paths.specs.Cert.{Cert, Numbers, IsIn, at_place}
use Rattle.rpki_paths.specs.Sets.{StandsFor, with_claim}
use Rattle.rpki_paths.specs.Path.{explicit_sets}
use Rattle.rpki_paths.specs.Anchor.{Supply, Fits, Takes, supplied_claim}
use Rattle.rpki_paths.specs.Walk.{resources_in}
use Rattle.rpki_paths.specs.Final.{IsWhole}
use Rattle.rpki_paths.specs.Grant.{IsAccepted, union_of}
use Rattle.rpki_paths.specs.Pairing.{Carried}
use Rattle.rpki_paths.specs.Supplied.{AnswersEach}

-- The supply is meant for the head of the path.
abbrev pub FitsPath : List Cert → Supply → Type 0
FitsPath [] s = ⊥
FitsPath (head ∷ p) s = Fits head s

-- The supply is one of these, is meant for the head of the path, and takes the path. It need not be
-- the first that is meant for it.
abbrev pub IsAnchoredBySome : List Cert → List Supply → Supply → Type 0
IsAnchoredBySome p supplies s = IsIn s supplies × FitsPath p s × Takes p s

-- What is kept of the path `p` after some supplies, by whether it is anchored. If not, its explicit
-- sets are kept; if it is, one of the supplies is meant for it and took it, and the sets of the
-- supply are kept with these.
abbrev pub IsUnderSome : List Cert → List Supply → PathResources → Bool → Type 0
IsUnderSome p supplies sets false =
    (f : Family) → StandsFor (λ n. n) (resources_in sets f) (explicit_sets p f)
IsUnderSome p supplies sets true =
    (s : Supply) × IsAnchoredBySome p supplies s
    × ((f : Family) → StandsFor (λ n. n) (resources_in sets f)
    (with_claim (supplied_claim s f) (explicit_sets p f)))

-- This is kept of the path `p` after some supplies.
pub record IsKeptBySome {C : Type 0} (cert : C → Cert) (supplies : List Supply) (kept : Path C)
    (p : List Cert) : Type 0 where
  pub below : List Cert
  pub whole : p ≡ at_place kept.place (cert kept.head) ∷ below
  pub under : IsUnderSome p supplies kept.sets kept.anchored

-- This is kept of each of the paths.
abbrev pub AreKeptBySome : {C : Type 0} → (C → Cert) → List Supply → List (Path C) →
    List (List Cert) → Type 0
AreKeptBySome cert supplies [] [] = Unit {0}
AreKeptBySome cert supplies [] (p ∷ paths) = ⊥
AreKeptBySome cert supplies (k ∷ kept) [] = ⊥
AreKeptBySome cert supplies (k ∷ kept) (p ∷ paths) =
    IsKeptBySome cert supplies k p × AreKeptBySome cert supplies kept paths

-- Supplies that are handed in one after the other, each to the paths as the one before it left
-- them, whatever was answered.
abbrev pub AreAfter : {X C F : Type 0} → (C → Cert) → (X → Supply) → (X → C → F → Type 0) →
    List X → List (Path C) → List (Path C) → Type 0
AreAfter cert of refuses [] old new = new ≡ old
AreAfter {X} {C} {F} cert of refuses (x ∷ xs) old new =
    (mid : List (Path C)) × (answer : Result Bool (SupplyFault F))
    × AnswersEach cert (refuses x) (of x) old mid answer × AreAfter cert of refuses xs mid new

-- Each path with one of the supplies, which is meant for it and takes it.
abbrev pub AreAnchoredBySome : List (List Cert) → List Supply → List Supply → Type 0
AreAnchoredBySome [] supplies [] = Unit {0}
AreAnchoredBySome [] supplies (s ∷ anchors) = ⊥
AreAnchoredBySome (p ∷ paths) supplies [] = ⊥
AreAnchoredBySome (p ∷ paths) supplies (s ∷ anchors) =
    IsAnchoredBySome p supplies s × AreAnchoredBySome paths supplies anchors

-- Each path is anchored by one of the supplies, and each attested set has just the numbers that
-- some path stands for.
pub record IsEarnedBySome (paths : List (List Cert)) (supplies : List Supply)
    (attested : Family → Numbers) : Type 0 where
  pub anchors : List Supply
  pub anchored : AreAnchoredBySome paths supplies anchors
  pub equal : (f : Family) (n : ℕ) → holds (λ k. k) (attested f) n ≡ union_of paths anchors f n

-- As `IsGranted`, but that a path may be anchored by any supply that is meant for it and takes it.
pub record IsGrantedBySome (a : Carried) (supplies : List Supply) (attested : Family → Numbers) :
    Type 0 where
  pub paths : List (List Cert)
  pub accepted : IsAccepted a paths
  pub earned : IsEarnedBySome paths supplies attested

-- What is kept of paths, all of which are anchored, tells their numbers: each path is anchored by
-- one of the supplies, which is meant for it and takes it, and an attested set has just the numbers
-- that are kept where it has just those that some path stands for.
pub record KeepsNumbers {C : Type 0} (kept : List (Path C)) (paths : List (List Cert))
    (supplies : List Supply) : Type 0 where
  pub anchors : List Supply
  pub anchored : AreAnchoredBySome paths supplies anchors
  pub whole : (attested : Family → Numbers) (f : Family) → IsWhole kept attested f
      ↔ ((n : ℕ) → holds (λ k. k) (attested f) n ≡ union_of paths anchors f n)
