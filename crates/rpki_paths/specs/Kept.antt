-- What is kept of paths under supplies, and what walks from several certificates answer.
use Rattle.std.specs.Prelude.{◌≡◌, ◌<◌, ℕ, Bool, true, false, List, [], ◌∷◌, ◌++◌, Some}
use Rattle.std.specs.Prelude.{slice_get}
use Rattle.rpki_faults.specs.declared.family.Family.{Family}
use Rattle.rpki_paths.specs.declared.path_resources.PathResources.{PathResources}
use Rattle.rpki_paths.specs.declared.walker.Path.{Path}
use Rattle.rpki_paths.specs.declared.walker.PathFault.{PathFault}
use Rattle.rpki_paths.specs.declared.walker.PathFault.TheVariants.{NoValidIssuer, Returns, Revoked}
use Rattle.rpki_paths.specs.declared.walker.PathFault.TheVariants.{NotCovered}
use Rattle.rpki_paths.specs.declared.walker.PathFault.TheVariants.{Memory as OutOfMemory}
use Rattle.rpki_paths.specs.declared.walks.WalksFault.{WalksFault}
use Rattle.rpki_paths.specs.declared.walks.WalksFault.TheVariants.{NoPath, Unused, Memory}
use Rattle.rpki_paths.specs.Cert.{Cert, IsIn, at_place}
use Rattle.rpki_paths.specs.Sets.{StandsFor, with_claim}
use Rattle.rpki_paths.specs.Path.{explicit_sets}
use Rattle.rpki_paths.specs.Anchor.{Supply, Fits, IsAnchored, supplied_claim}
use Rattle.rpki_paths.specs.Walk.{resources_in, AreFirst, IsRefused}
use Rattle.rpki_paths.specs.Grant.{ArePaths, AreUsed, IsUsed}

-- None of the supplies is meant for the head of the path.
abbrev pub NoneFits : List Cert → List Supply → Type 0
NoneFits [] supplies = ⊥
NoneFits (head ∷ p) supplies = (s : Supply) → IsIn s supplies → ¬ (Fits head s)

-- What is kept of the path `p` under some supplies, by whether it is anchored. If not, none of them
-- is meant for its head, and its explicit sets are kept; if it is, the first that is meant took it,
-- and the sets of the supply are kept with these.
abbrev pub IsUnder : List Cert → List Supply → PathResources → Bool → Type 0
IsUnder p supplies sets false =
    NoneFits p supplies
    × ((f : Family) → StandsFor (λ n. n) (resources_in sets f) (explicit_sets p f))
IsUnder p supplies sets true =
    (s : Supply) × IsAnchored p supplies s
    × ((f : Family) → StandsFor (λ n. n) (resources_in sets f)
    (with_claim (supplied_claim s f) (explicit_sets p f)))

-- This is kept of the path `p` under some supplies.
pub record IsKept {C : Type 0} (cert : C → Cert) (supplies : List Supply) (kept : Path C)
    (p : List Cert) : Type 0 where
  pub below : List Cert
  pub whole : p ≡ at_place kept.place (cert kept.head) ∷ below
  pub under : IsUnder p supplies kept.sets kept.anchored

-- This is kept of each of the paths.
abbrev pub AreKept : {C : Type 0} → (C → Cert) → List Supply → List (Path C) → List (List Cert) →
    Type 0
AreKept cert supplies [] [] = Unit {0}
AreKept cert supplies [] (p ∷ paths) = ⊥
AreKept cert supplies (k ∷ kept) [] = ⊥
AreKept cert supplies (k ∷ kept) (p ∷ paths) =
    IsKept cert supplies k p × AreKept cert supplies kept paths

-- Each issuer on each of these paths is the first that verifies what is below.
abbrev pub AreFirstOnEach : List Cert → List (List Cert) → Type 0
AreFirstOnEach cas paths = (p : List Cert) → IsIn p paths → AreFirst cas p

-- Each certificate has a covered path, each issuer on it the first that verifies what is below;
-- every CA stands on one of these paths, and this is kept of them.
pub record AreWalked {C : Type 0} (cert : C → Cert) (cas ees : List Cert) (kept : List (Path C)) :
    Type 0 where
  pub paths : List (List Cert)
  pub stand : ArePaths cas ees paths
  pub first : AreFirstOnEach cas paths
  pub used : AreUsed cas paths
  pub are_kept : AreKept cert [] kept paths

-- The first certificate from which the walk is refused, for this cause, which is not want of
-- memory: from those before it walks find paths.
pub record StopsFor (fault : PathFault) (cas ees : List Cert) : Type 0 where
  pub done : List Cert
  pub ee : Cert
  pub more : List Cert
  pub paths : List (List Cert)
  pub parts : ees ≡ done ++ ee ∷ more
  pub stand : ArePaths cas done paths
  pub first : AreFirstOnEach cas paths
  pub refused : IsRefused fault cas (at_place 0 ee)
  pub not_memory : ¬ (fault ≡ OutOfMemory)

-- The first CA that stands on none of the paths is the one at this place.
pub record IsFirstUnused (cas ees : List Cert) (place : ℕ) : Type 0 where
  pub paths : List (List Cert)
  pub ca : Cert
  pub stand : ArePaths cas ees paths
  pub first : AreFirstOnEach cas paths
  pub at_index : slice_get cas place ≡ Some ca
  pub unused : ¬ (IsUsed ca paths)
  pub before : (k : ℕ) (d : Cert) → k < place → slice_get cas k ≡ Some d → IsUsed d paths

-- Why walks from these certificates are refused: the cause of the first walk that is refused; or
-- the first CA that stands on none of the paths.
abbrev pub AreRefused : WalksFault → List Cert → List Cert → Type 0
AreRefused (NoPath fault) cas ees = StopsFor fault cas ees
AreRefused (Unused place) cas ees = IsFirstUnused cas ees place
AreRefused Memory cas ees = Unit {0}

-- The cause for several walks, from that of one.
abbrev pub walks_fault : PathFault → WalksFault
walks_fault NoValidIssuer = NoPath NoValidIssuer
walks_fault Returns = NoPath Returns
walks_fault Revoked = NoPath Revoked
walks_fault (NotCovered family) = NoPath (NotCovered family)
walks_fault OutOfMemory = Memory
