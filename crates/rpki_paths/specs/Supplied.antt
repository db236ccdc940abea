-- What a supply does to paths.
use Rattle.std.specs.Prelude.{◌≡◌, ℕ, ◌<◌, ◌≤◌, Bool, List, [], ◌∷◌, length, Result, Ok, Err}
use Rattle.std.specs.Prelude.{IsTrue, IsFalse}
use Rattle.std.specs.Prelude.{◌⊎◌, ◌↔◌, Some, slice_get}
use Rattle.rpki_resources.specs.declared.resources.Claim.TheVariants.{Explicit}
use Rattle.rpki_faults.specs.declared.family.Family.{Family}
use Rattle.rpki_paths.specs.declared.walker.Path.{Path}
use Rattle.rpki_paths.specs.declared.supply.Supplied.{Supplied}
use Rattle.rpki_paths.specs.declared.supply.Supplied.TheVariants.{Tal, Ca}
use Rattle.rpki_paths.specs.declared.supply.SupplyFault.{SupplyFault}
use Rattle.rpki_paths.specs.declared.supply.SupplyFault.TheVariants.{NoAnchor, NotCovered, Memory}
use Rattle.rpki_paths.specs.Cert.{Cert, Numbers}
use Rattle.rpki_paths.specs.Sets.{CoversNearest, IsWithClaim}
use Rattle.rpki_paths.specs.Anchor.{Supply, Fits, IsAnchor, supplied_claim}
use Rattle.rpki_paths.specs.Walk.{resources_in, InEach, FailsFirst}

-- The sets of a CA cover what is kept of a path in the family, where they have to.
abbrev pub CoversPath : {C : Type 0} → (C → Cert) → Path C → (Family → Numbers) → Family → Type 0
CoversPath cert path sets f =
    CoversNearest (λ n. n) (cert path.head).overclaim (resources_in path.sets f) (Explicit (sets f))

-- What is kept of a path tells that the supply takes it: where this is a locator, the head is a
-- trust anchor; where it is a CA, its sets cover what they have to.
abbrev pub TakesKept : {C : Type 0} → (C → Cert) → Path C → Supply → Type 0
TakesKept cert path (Supply.Tal key) = IsAnchor (cert path.head)
TakesKept cert path (Supply.Ca ski key sets) = InEach (CoversPath cert path sets)

-- The path stays as it is: it is anchored already, or the supply is not meant for its head.
abbrev pub IsPassed : {C : Type 0} → (C → Cert) → Supply → Path C → Path C → Type 0
IsPassed cert s old new = (IsTrue old.anchored ⊎ ¬ (Fits (cert old.head) s)) × (new ≡ old)

-- The path, which was not anchored, is anchored under the supply, which is meant for its head and
-- takes it: what the supply claims is kept above what was kept, and head and place stay.
pub record IsTaken {C : Type 0} (cert : C → Cert) (s : Supply) (old new : Path C) : Type 0 where
  pub open_path : IsFalse old.anchored
  pub meant : Fits (cert old.head) s
  pub takes : TakesKept cert old s
  pub resources : InEach (λ f. IsWithClaim (λ n. n) (cert old.head).overclaim
      (resources_in old.sets f) (supplied_claim s f) (resources_in new.sets f))
  pub head : new.head ≡ old.head
  pub place : new.place ≡ old.place
  pub anchored : IsTrue new.anchored

-- What a supply does to a path.
abbrev pub IsSupplied : {C : Type 0} → (C → Cert) → Supply → Path C → Path C → Type 0
IsSupplied cert s old new = IsPassed cert s old new ⊎ IsTaken cert s old new

-- Why the supply does not take the path; `refuses` tells the faults that a locator gives of a head.
-- Only a CA needs memory.
abbrev pub Declines : {C F : Type 0} → (C → Cert) → (C → F → Type 0) → Path C → Supply →
    SupplyFault F → Type 0
Declines cert refuses path (Supply.Tal key) (NoAnchor fault) =
    ¬ (IsAnchor (cert path.head)) × refuses path.head fault
Declines cert refuses path (Supply.Tal key) (NotCovered family) = ⊥
Declines cert refuses path (Supply.Tal key) Memory = ⊥
Declines cert refuses path (Supply.Ca ski key sets) (NoAnchor fault) = ⊥
Declines cert refuses path (Supply.Ca ski key sets) (NotCovered family) =
    FailsFirst (CoversPath cert path sets) family
Declines cert refuses path (Supply.Ca ski key sets) Memory = Unit {0}

-- The path is not anchored, and the supply, which is meant for its head, does not take it.
pub record IsDeclined {C F : Type 0} (cert : C → Cert) (refuses : C → F → Type 0) (s : Supply)
    (path : Path C) (fault : SupplyFault F) : Type 0 where
  pub open_path : IsFalse path.anchored
  pub meant : Fits (cert path.head) s
  pub declines : Declines cert refuses path s fault

-- What a supply answers to a path. A path that it declines stays as it is.
abbrev pub Answers : {C F : Type 0} → (C → Cert) → (C → F → Type 0) → Supply → Path C → Path C →
    Result Bool (SupplyFault F) → Type 0
Answers cert refuses s old new (Ok done) = (done ≡ new.anchored) × IsSupplied cert s old new
Answers cert refuses s old new (Err fault) = (new ≡ old) × IsDeclined cert refuses s old fault

-- The paths below this place are supplied, and the others stay as they are.
pub record AreSupplied {C : Type 0} (cert : C → Cert) (s : Supply) (old new : List (Path C))
    (i : ℕ) : Type 0 where
  pub below : (k : ℕ) (p q : Path C) → k < i → slice_get old k ≡ Some p → slice_get new k ≡ Some q →
      IsSupplied cert s p q
  pub above : (k : ℕ) → i ≤ k → slice_get new k ≡ slice_get old k
  pub as_many : length new ≡ length old

-- All of the paths below this place are anchored.
abbrev pub AreAnchoredTo : {C : Type 0} → List (Path C) → ℕ → Type 0
AreAnchoredTo {C} paths i =
    (k : ℕ) (p : Path C) → k < i → slice_get paths k ≡ Some p → IsTrue p.anchored

-- What a supply answers to several paths: whether all are anchored then. The first that it declines
-- ends the call: those before it keep what they got, and it and those after it stay as they were.
abbrev pub AnswersEach : {C F : Type 0} → (C → Cert) → (C → F → Type 0) → Supply → List (Path C) →
    List (Path C) → Result Bool (SupplyFault F) → Type 0
AnswersEach cert refuses s old new (Ok done) =
    AreSupplied cert s old new (length old) × (IsTrue done ↔ AreAnchoredTo new (length new))
AnswersEach {C} cert refuses s old new (Err fault) =
    (i : ℕ) × (p : Path C) × (slice_get old i ≡ Some p) × IsDeclined cert refuses s p fault
    × AreSupplied cert s old new i

-- The supply that is handed in.
abbrev pub supply_of : {T S : Type 0} → (T → List ℕ) → (S → List ℕ) → (S → List ℕ) →
    (S → Family → Numbers) → Supplied T S → Supply
supply_of tal_key ski key sets (Tal tal) = Supply.Tal (tal_key tal.now)
supply_of tal_key ski key sets (Ca ca) = Supply.Ca (ski ca.now) (key ca.now) (sets ca.now)

-- The faults that a supply that is handed in gives of a head: those of a locator, and none of a CA.
abbrev pub refusal_of : {T S C F : Type 0} → (T → C → F → Type 0) → Supplied T S → C → F → Type 0
refusal_of refuses (Tal tal) = refuses tal.now
refusal_of refuses (Ca ca) = λ head fault. ⊥

-- Supplies that are handed in one after the other, each to the paths as the one before it left
-- them. The first that declines a path ends the call, with its fault and the paths as it leaves
-- them.
abbrev pub AreSuppliedAll : {X C F : Type 0} → (C → Cert) → (X → Supply) → (X → C → F → Type 0) →
    List X → List (Path C) → List (Path C) → Result (Unit {0}) (SupplyFault F) → Type 0
AreSuppliedAll cert of refuses [] old new (Ok done) = new ≡ old
AreSuppliedAll cert of refuses [] old new (Err fault) = ⊥
AreSuppliedAll {X} {C} cert of refuses (s ∷ supplies) old new (Ok done) =
    (mid : List (Path C)) × (all : Bool) × AnswersEach cert (refuses s) (of s) old mid (Ok all)
    × AreSuppliedAll cert of refuses supplies mid new (Ok done)
AreSuppliedAll {X} {C} cert of refuses (s ∷ supplies) old new (Err fault) =
    AnswersEach cert (refuses s) (of s) old new (Err fault)
    ⊎ ((mid : List (Path C)) × (all : Bool) × AnswersEach cert (refuses s) (of s) old mid (Ok all)
    × AreSuppliedAll cert of refuses supplies mid new (Err fault))
