-- A walk over places: what was read, and what was left unread.
use Rattle.std.specs.Prelude.{◌≡◌, ◌≢◌, ◌↔◌, ◌⊎◌, ℕ, ◌+◌, ◌*◌, ◌/◌, ◌<◌, ◌≤◌, List, ◌∷◌, ◌++◌}
use Rattle.std.specs.Prelude.{Contains, All, AllPairs, IsPermutation, bytes_eq, flat_map, map}
use Rattle.std.specs.Prelude.{sum_by, if◌then◌else◌}
use Rattle.rpki_relying_party.specs.Paths.{Leads}
use Rattle.rpki_relying_party.specs.declared.walk.Why.{Why}
use Rattle.rpki_relying_party.specs.declared.walk.Why.TheVariants.{Limit, Memory}

-- a place that was read: what it said, its children, and how much work that was
pub record Read (P X : Type 0) : Type 0 where
  pub place : P
  pub said : List X
  pub children : List P
  pub cost : ℕ

-- a place that was met and left unread, and how much its last try took, which ran out of memory:
-- none, if it had no such try
pub record Left (P : Type 0) : Type 0 where
  pub place : P
  pub why : Why
  pub tried : ℕ

-- a try of a place that was cut, and the room that it had, all of which was spent
pub record Try (P : Type 0) : Type 0 where
  pub place : P
  pub room : ℕ

-- the places that were read
abbrev pub places_read : {P X : Type 0} → List (Read P X) → List P
places_read reads = map (λ r. r.place) reads

-- the places that were left unread
abbrev pub places_left : {P : Type 0} → List (Left P) → List P
places_left unread = map (λ u. u.place) unread

-- the places that were read, and those that were left unread
abbrev pub places_settled : {P X : Type 0} → List (Read P X) → List (Left P) → List P
places_settled reads unread = places_read reads ++ places_left unread

-- the start, and the children that were listed, each as often as it was
abbrev pub places_told : {P X : Type 0} → P → List (Read P X) → List P
places_told start reads = start ∷ flat_map (λ r. r.children) reads

-- how much was spent on cut tries of places with this key
abbrev pub spent_on : {P : Type 0} → (P → List ℕ) → List (Try P) → List ℕ → ℕ
spent_on key cuts k = sum_by (λ t. if bytes_eq (key t.place) k then t.room else 0) cuts

-- how much work all was: the reads, the tries that ran out of memory, and those that were cut
abbrev pub total : {P X : Type 0} → List (Read P X) → List (Left P) → List (Try P) → ℕ
total reads unread cuts =
    sum_by (λ r. r.cost) reads + (sum_by (λ u. u.tried) unread + sum_by (λ t. t.room) cuts)

-- how much a place may cost at the first try of its key
abbrev pub first_room : ℕ → ℕ
first_room limit = limit / 8192 + 1

-- When the first place was read, it listed the second as its child.
abbrev pub IsToldChild : {P X : Type 0} → List (Read P X) → P → P → Type 0
IsToldChild {P} {X} reads p child =
    (r : Read P X) × Contains reads r × (r.place ≡ p) × Contains r.children child

-- A chain of children that were listed leads from the start to this place.
abbrev pub IsMet : {P X : Type 0} → P → List (Read P X) → P → Type 0
IsMet {P} start reads p = (path : List P) × Leads (IsToldChild reads) start path p

-- One of these places has the key.
abbrev pub HasKey : {P : Type 0} → (P → List ℕ) → List P → List ℕ → Type 0
HasKey {P} key places k = (p : P) × Contains places p × (key p ≡ k)

-- Nothing was spent on tries of places with the key, or at most so many times the room of one of
-- these tries, which was cut.
abbrev pub IsSmall : {P : Type 0} → (P → List ℕ) → List (Try P) → ℕ → List ℕ → ℕ → Type 0
IsSmall {P} key cuts times k spent = (spent ≡ 0)
    ⊎ ((t : Try P) × Contains cuts t × (key t.place ≡ k) × (spent ≤ times * t.room))

-- A place with the key was left after a try that took some work and ran out of memory.
abbrev pub HasLacked : {P : Type 0} → (P → List ℕ) → List (Left P) → List ℕ → Type 0
HasLacked {P} key unread k =
    (u : Left P) × Contains unread u × (key u.place ≡ k) × (0 < u.tried)

-- How much the last try of a place took that was left for this: there was none, where no work was
-- left for it; one that ran out of memory had as much room as cut tries of its key had taken, and
-- the first room, at most.
abbrev pub IsLastTry : ℕ → ℕ → Why → ℕ → Type 0
IsLastTry limit spent Limit tried = tried ≡ 0
IsLastTry limit spent Memory tried = tried ≤ spent + first_room limit

-- A try that ran out of memory, if there was one, took all its room: as much as cut tries of its
-- key had taken, and the first room; or what was left of the limit, which is spent then.
abbrev pub IsWholeTry : ℕ → Type 0 → ℕ → ℕ → Type 0
IsWholeTry limit Gone spent tried = 0 < tried → (tried ≡ spent + first_room limit) ⊎ Gone

-- What was read, this first, and what was found and left unread then.
pub record IsWalk {P X : Type 0} (tells : P → List X → List P → Type 0)
    (costs exceeds : P → ℕ → Type 0) (key : P → List ℕ) (listed lists had has : X → Type 0)
    (first : Read P X) (limit : ℕ)
    (unread : List (Left P)) : Type 0 where
  pub reads : List (Read P X)
  pub begun : (rest : List (Read P X)) × (reads ≡ first ∷ rest)
  -- each told what it tells, and cost what it costs
  pub told : All (λ r. tells r.place r.said r.children) reads
  pub cost : All (λ r. costs r.place r.cost) reads
  -- of each key one place was read; others were passed over, and none was left unread
  pub once : AllPairs (λ k l. k ≢ l) (map key (places_read reads))
  pub passed : List P
  pub over : All (λ p. HasKey key (places_read reads) (key p)) passed
  pub fresh : All (λ u. ¬ HasKey key (places_read reads) (key u.place)) unread
  -- all that was met was read, left or passed over: the start, and each child of what was read; a
  -- child was left, or one with its key was read
  pub split : IsPermutation (places_told first.place reads) (places_settled reads unread ++ passed)
  pub met : All (IsMet first.place reads) (places_settled reads unread)
  pub closed :
      All (λ r. All (λ c. HasKey key (places_read reads) (key c) ⊎ Contains (places_left unread) c)
      r.children) reads
  -- what was said was found, and nothing else
  pub found : (x : X) → lists x → listed x ⊎ ((r : Read P X) × Contains reads r × Contains r.said x)
  pub kept : All (λ r. All has r.said) reads
  pub stays : (x : X) → had x → has x
  -- all work was within the limit, and a place was left for it only where it was spent
  pub cuts : List (Try P)
  pub cut : All (λ t. exceeds t.place t.room) cuts
  pub cut_met : All (λ t. IsMet first.place reads t.place) cuts
  pub within : total reads unread cuts ≤ limit
  pub full : All (λ u. u.why ≡ Limit → total reads unread cuts ≡ limit) unread
  -- each read but the first, and each try, had as much room as was spent on tries of its key before,
  -- and the first room, at most
  pub small : All (λ r. r.cost ≤ spent_on key cuts (key r.place) + first_room limit) (begun.0)
  pub rooms : All (λ t. 2 * t.room ≤ spent_on key cuts (key t.place) + first_room limit) cuts
  pub left : All (λ u. IsLastTry limit (spent_on key cuts (key u.place)) u.why u.tried) unread
  pub whole : All (λ u. IsWholeTry limit (total reads unread cuts ≡ limit)
      (spent_on key cuts (key u.place)) u.tried) unread
  -- what was spent on tries of a key is little beside what reading one of its places costs, however
  -- often one was listed
  pub wasted : (k : List ℕ) → IsSmall key cuts 3 k (spent_on key cuts k)
  pub tried : All (λ r. IsSmall key cuts 2 (key r.place) (spent_on key cuts (key r.place))) reads
  -- a place was left for memory exactly where a try of its key ran out of it: one try of each key
  pub lacked : All (λ u. (u.why ≡ Memory) ↔ HasLacked key unread (key u.place)) unread
  pub lacked_once :
      AllPairs (λ u v. 0 < u.tried → 0 < v.tried → key u.place ≢ key v.place) unread
