-- The steps of a walk.
use Rattle.std.specs.Prelude.{◌≡◌, ◌↔◌, ◌⊎◌, ℕ, ◌+◌, ◌<◌, ◌≤◌, List, [], ◌∷◌, ◌++◌, Contains}
use Rattle.std.specs.Prelude.{All, Bool, true, false, IsTrue, IsPermutation, Vec, bytes_eq, map}
use Rattle.std.specs.Prelude.{unwrap_or}
use Rattle.std.specs.Prelude.{if◌then◌else◌}
use Rattle.std.specs.declared.alloc.Global.{Global}
use Rattle.std.specs.BTreeMap.{BTreeMap, get_by}
use Rattle.std.specs.BTreeSet.{BTreeSet, contains_by}
use Rattle.std.specs.Cmp.Lexicographic.{slice_cmp}
use Rattle.std.specs.Ordering.{nat_cmp}
use Rattle.rpki_relying_party.specs.Walk.{Read, Left}
use Rattle.rpki_relying_party.specs.declared.places.Reading.{Reading}
use Rattle.rpki_relying_party.specs.declared.places.Reading.TheVariants as readings
use Rattle.rpki_relying_party.specs.declared.places.Told.{Told}
use Rattle.rpki_relying_party.specs.declared.walk.Why.{Why}
use Rattle.rpki_relying_party.specs.declared.walk.Why.TheVariants.{Memory}

-- What a place tells when it is read, at the cost of reading it, one at least, within some room.
abbrev pub IsTelling : {P X : Type 0} → (P → List X → List P → Type 0) → (P → ℕ → Type 0) → P → ℕ
    → Told P X → Type 0
IsTelling tells costs p room t =
    tells p t.said.items t.children.items × costs p t.cost × (0 < t.cost) × (t.cost ≤ room)

-- What came of reading a place within some room: what it tells; or that reading it costs more than
-- there was room for.
abbrev pub IsReading : {P X : Type 0} → (P → List X → List P → Type 0) → (P → ℕ → Type 0)
    → (P → ℕ → Type 0) → P → ℕ → Reading P X → Type 0
IsReading tells costs exceeds p room (readings.Told t) = IsTelling tells costs p room t
IsReading tells costs exceeds p room readings.Cut = exceeds p room

-- whether these octets are one of the keys
abbrev pub has_key : BTreeSet (Vec ℕ Global) → List ℕ → Bool
has_key keys octets = contains_by (λ k. slice_cmp nat_cmp octets k.items) keys

-- The key is among the keys now, and was not before, or was.
pub record IsPut (key : List ℕ) (old new : List ℕ → Bool) (fresh : Bool) : Type 0 where
  pub was : IsTrue fresh ↔ (¬ IsTrue (old key))
  pub now : (k : List ℕ) → IsTrue (new k) ↔ (IsTrue (old k) ⊎ (k ≡ key))

-- The key is among the keys now, with those that were.
abbrev pub Adds : List ℕ → (List ℕ → Bool) → (List ℕ → Bool) → Type 0
Adds key old new = (k : List ℕ) → IsTrue (new k) ↔ (IsTrue (old k) ⊎ (k ≡ key))

-- how much was spent on tries of this key
abbrev pub spent_for : BTreeMap (Vec ℕ Global) ℕ → List ℕ → ℕ
spent_for spent octets = unwrap_or (get_by (λ k. slice_cmp nat_cmp octets k.items) spent) 0

-- So much more was spent on tries of the key, and of no other.
abbrev pub Spends : List ℕ → ℕ → (List ℕ → ℕ) → (List ℕ → ℕ) → Type 0
Spends key room old new =
    (k : List ℕ) → new k ≡ old k + (if bytes_eq key k then room else 0)

-- a place that was read, as it told
abbrev pub read_as : {P X : Type 0} → P → Told P X → Read P X
read_as p t =
    record { place = p; said = t.said.items; children = t.children.items; cost = t.cost }

-- a place, left unread for this after a last try that took so much
abbrev pub left_for : {P : Type 0} → P → Why → ℕ → Left P
left_for p why tried = record { place = p; why = why; tried = tried }

-- what is left unread where this place is met again: none, where its key was read; or the place, for
-- which there is no memory
abbrev pub passed_by : {P : Type 0} → P → Bool → List (Left P)
passed_by p true = []
passed_by p false = left_for p Memory 0 ∷ []

-- These wait in addition.
abbrev pub AreMet : {P : Type 0} → List P → List P → List P → Type 0
AreMet children waiting waiting2 = IsPermutation (children ++ waiting) waiting2

-- A place with this key was read: the key is among those that were, what the place said was found,
-- and its children wait.
pub record IsHeard {P X F : Type 0} (lists has : F → X → Type 0) (k : List ℕ) (said : List X)
    (children : List P) (found found2 : F) (read read2 : List ℕ → Bool)
    (waiting waiting2 : List P) : Type 0 where
  pub reads : Adds k read read2
  pub found_now : (x : X) → lists found2 x → lists found x ⊎ Contains said x
  pub stays : (x : X) → has found x → has found2 x
  pub kept : All (has found2) said
  pub met : AreMet children waiting waiting2

-- Some of those that waited were passed over, since their keys were read, and some were left, since
-- tries of their keys ran out of memory; the others wait.
pub record ArePassed {P : Type 0} (key : P → List ℕ) (read lacking : List ℕ → Bool)
    (unread unread2 : List (Left P)) (waiting waiting2 : List P) : Type 0 where
  pub passed : List P
  pub over : All (λ p. IsTrue (read (key p))) passed
  pub left : List P
  pub lack : All (λ p. (¬ IsTrue (read (key p))) × IsTrue (lacking (key p))) left
  pub now : unread2 ≡ unread ++ map (λ p. left_for p Memory 0) left
  pub split : IsPermutation waiting (passed ++ (left ++ waiting2))

-- The turn is that of a place with this key, which was not read, and of which no try ran out of
-- memory. Those that waited before it are passed over or left.
pub record IsTurn {P : Type 0} (key : P → List ℕ) (read lacking : List ℕ → Bool)
    (unread unread2 : List (Left P)) (waiting waiting2 : List P) (p : P) (k : List ℕ)
    : Type 0 where
  pub passed : ArePassed key read lacking unread unread2 waiting (p ∷ waiting2)
  pub its : k ≡ key p
  pub fresh : ¬ IsTrue (read k)
  pub untried : ¬ IsTrue (lacking k)

-- It was left, since its try ran out of memory: all the room was spent, and nothing was met or
-- found.
pub record WasLeft {P F : Type 0} (p : P) (k : List ℕ) (room done : ℕ) (found found2 : F)
    (unread unread2 : List (Left P)) (read read2 lacking lacking2 : List ℕ → Bool)
    (spent spent2 : List ℕ → ℕ) (waiting waiting2 : List P) : Type 0 where
  pub lacks : Adds k lacking lacking2
  pub now : unread2 ≡ unread ++ left_for p Memory room ∷ []
  pub all : done ≡ room
  pub same_found : found2 ≡ found
  pub same_read : read2 ≡ read
  pub same_spent : spent2 ≡ spent
  pub same_waiting : waiting2 ≡ waiting

-- Its reading was cut: all the room was spent on a try of the key, and the place waits again.
pub record WasCut {P F : Type 0} (exceeds : P → ℕ → Type 0) (p : P) (k : List ℕ)
    (room done : ℕ) (found found2 : F) (unread unread2 : List (Left P))
    (read read2 lacking lacking2 : List ℕ → Bool) (spent spent2 : List ℕ → ℕ)
    (waiting waiting2 : List P) : Type 0 where
  pub more : exceeds p room
  pub waits : IsPermutation (p ∷ waiting) waiting2
  pub spends : Spends k room spent spent2
  pub all : done ≡ room
  pub same_found : found2 ≡ found
  pub same_read : read2 ≡ read
  pub same_lacking : lacking2 ≡ lacking
  pub same_left : unread2 ≡ unread

-- It was read: what it said was found, and its children were met.
pub record WasRead {P X F : Type 0} (tells : P → List X → List P → Type 0) (costs : P → ℕ → Type 0)
    (lists has : F → X → Type 0) (p : P) (k : List ℕ) (room done : ℕ)
    (found found2 : F) (unread unread2 : List (Left P))
    (read read2 lacking lacking2 : List ℕ → Bool) (spent spent2 : List ℕ → ℕ)
    (waiting waiting2 : List P) : Type 0 where
  pub said : List X
  pub children : List P
  pub told : tells p said children
  pub cost : costs p done
  pub some : 0 < done
  pub fits : done ≤ room
  pub none_left : unread2 ≡ unread
  pub same_lacking : lacking2 ≡ lacking
  pub same_spent : spent2 ≡ spent
  pub heard : IsHeard lists has k said children found found2 read read2 waiting waiting2

-- The turn of a place with this key came: it was left unread, waits again, or was read.
abbrev pub IsVisit : {P X F : Type 0} → (P → List X → List P → Type 0) → (P → ℕ → Type 0)
    → (P → ℕ → Type 0) → (F → X → Type 0) → (F → X → Type 0) → P → List ℕ → ℕ → ℕ → F → F
    → List (Left P) → List (Left P) → (List ℕ → Bool) → (List ℕ → Bool) → (List ℕ → Bool)
    → (List ℕ → Bool) → (List ℕ → ℕ) → (List ℕ → ℕ) → List P → List P → Type 0
IsVisit tells costs exceeds lists has p k room n found found2 unread unread2 read read2 lacking
    lacking2 spent spent2 waiting waiting2 =
    WasLeft p k room n found found2 unread unread2 read read2 lacking lacking2 spent spent2 waiting
    waiting2
    ⊎ (WasCut exceeds p k room n found found2 unread unread2 read read2 lacking lacking2 spent
    spent2 waiting waiting2
    ⊎ WasRead tells costs lists has p k room n found found2 unread unread2 read read2 lacking
    lacking2 spent spent2 waiting waiting2)
