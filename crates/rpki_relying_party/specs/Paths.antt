-- Places, what they say, and the chains that lead from one to another. What a place tells, its
-- findings and its children in their order, comes from the caller; its key too.
use Rattle.std.specs.Prelude.{◌≡◌, ℕ, List, [], ◌∷◌, Contains}
use Rattle.std.specs.List.{AllZip}

-- A chain leads from the first place to the second: each of it is a child of the one before.
abbrev pub Leads : {P : Type 0} → (P → P → Type 0) → P → List P → P → Type 0
Leads child p [] q = p ≡ q
Leads child p (c ∷ path) q = child p c × Leads child c path q

-- The second place is a child of the first.
abbrev pub IsChild : {P X : Type 0} → (P → List X → List P → Type 0) → P → P → Type 0
IsChild {P} {X} tells p child =
    (said : List X) × (children : List P) × tells p said children × Contains children child

-- The place says x.
abbrev pub Says : {P X : Type 0} → (P → List X → List P → Type 0) → P → X → Type 0
Says {P} {X} tells p x =
    (said : List X) × (children : List P) × tells p said children × Contains said x

-- A place says x to which a chain of children leads from the start.
abbrev pub IsSaid : {P X : Type 0} → (P → List X → List P → Type 0) → P → X → Type 0
IsSaid {P} tells start x =
    (path : List P) × (p : P) × Leads (IsChild tells) start path p × Says tells p x

-- Of all that the place says, something alike was found.
abbrev pub IsFound : {P X : Type 0} → (P → List X → List P → Type 0) → (X → X → Type 0)
    → (X → Type 0) → P → Type 0
IsFound {P} {X} tells alike has p =
    (x : X) → Says tells p x → (y : X) × alike x y × has y

-- Places with one key tell just one thing, whenever they are read: what they say is alike, and so
-- are the keys of their children. Of files that may change it does not hold.
abbrev pub TellsOne : {P X : Type 0} → (P → List X → List P → Type 0) → (P → List ℕ)
    → (X → X → Type 0) → Type 0
TellsOne {P} {X} tells key alike =
    (p q : P) (said said2 : List X) (children children2 : List P) → key p ≡ key q
    → tells p said children → tells q said2 children2
    → AllZip alike said said2 × AllZip (λ c d. key c ≡ key d) children children2

-- Some place on the chain, its ends among them, has the key of one of these.
abbrev pub Passes : {P : Type 0} → (P → List ℕ) → List P → P → List P → Type 0
Passes {P} key places start path =
    (p : P) × (q : P) × Contains (start ∷ path) p × Contains places q × (key p ≡ key q)
