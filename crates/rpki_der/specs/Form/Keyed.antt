-- Items in any order, told apart by their keys: extensions, signed attributes, access descriptions.
-- And how one is looked up.
use Rattle.std.specs.Prelude.{◌≡◌, ◌≢◌, List, [], ◌∷◌, ◌++◌, ℕ, Bool, true, false, not, ◌&&◌, ◌||◌}
use Rattle.std.specs.Prelude.{if◌then◌else◌, Option, None, Some, All, Any, AllPairs}
use Rattle.std.specs.Str.{bytes_eq}
use Rattle.rpki_der.specs.Read.Parse.{◌>>=◌}

-- No two items have the same key.
abbrev pub AreDistinct : {I : Type 0} → (I → List ℕ) → List I → Type 0
AreDistinct key items = AllPairs (λ x y. key x ≢ key y) items

-- The last argument is what the item with the key oid says, or nothing where no item has this key;
-- key tells the key of an item.
abbrev pub Keyed : {I X : Type 0} → (I → List ℕ) → (I → X → Type 0) → List I → List ℕ → Option X
    → Type 0
Keyed key Say items oid None = All (λ i. key i ≢ oid) items
Keyed key Say items oid (Some x) = Any (λ i. (key i ≡ oid) × Say i x) items

-- One item has the key oid, and no second one, and it says x; key tells the key of an item.
abbrev pub Once : {I X : Type 0} → (I → List ℕ) → (I → X → Type 0) → List I → List ℕ → X → Type 0
Once {I} key Say items oid x =
    (before : List I) × (item : I) × (after : List I) × (items ≡ before ++ item ∷ after)
    × (key item ≡ oid) × All (λ i. key i ≢ oid) before × All (λ i. key i ≢ oid) after × Say item x

-- The item says nothing.
abbrev pub SaysNothing : {I X : Type 0} → (I → X → Type 0) → I → Type 0
SaysNothing {I} {X} Say item = (x : X) → Say item x → ⊥

-- The last argument is what the first of the items says that says something, or nothing where none
-- of the items says anything.
abbrev pub First : {I X : Type 0} → (I → X → Type 0) → List I → Option X → Type 0
First Say items None = All (SaysNothing Say) items
First {I} Say items (Some x) =
    (before : List I) × (item : I) × (after : List I) × (items ≡ before ++ item ∷ after)
    × All (SaysNothing Say) before × Say item x

-- Of an item of which Good holds, `say` finds x only where the item says x; and what an item says,
-- `say` finds.
pub record IsSaid {I X : Type 0} (say : I → Option X) (Good : I → Type 0) (Say : I → X
    → Type 0) : Type 0 where
  pub sound : (i : I) (x : X) → Good i → say i ≡ Some x → Say i x
  pub complete : (i : I) (x : X) → Say i x → say i ≡ Some x

-- ---- as functions

-- the first item with this key
abbrev pub with_key : {I : Type 0} → (I → List ℕ) → List ℕ → List I → Option I
with_key key oid [] = None
with_key key oid (i ∷ items) = if bytes_eq (key i) oid then Some i else with_key key oid items

-- whether an item has this key
abbrev pub has_key : {I : Type 0} → (I → List ℕ) → List ℕ → List I → Bool
has_key key oid [] = false
has_key key oid (i ∷ items) = bytes_eq (key i) oid || has_key key oid items

-- whether no two items have the same key
unfoldable pub are_distinct : {I : Type 0} → (I → List ℕ) → List I → Bool
are_distinct key [] = true
are_distinct key (i ∷ items) = not (has_key key (key i) items) && are_distinct key items

-- what say understands of an item, where there is one
abbrev pub said_of : {I X : Type 0} → (I → Option X) → Option I → Option (Option X)
said_of say None = Some None
said_of say (Some i) = say i >>= λ x. Some (Some x)

-- what say understands of the first item with this key
abbrev pub said : {I X : Type 0} → (I → List ℕ) → (I → Option X) → List ℕ → List I
    → Option (Option X)
said key say oid items = said_of say (with_key key oid items)

-- the value of a field that has to be there
abbrev pub must : {X : Type 0} → Option (Option X) → Option X
must None = None
must (Some x) = x

-- the only item with this key
abbrev pub only_one : {I : Type 0} → (I → List ℕ) → List ℕ → List I → Option I
only_one key oid [] = None
only_one key oid (i ∷ items) =
    if bytes_eq (key i) oid then
    (if has_key key oid items then None else Some i) else only_one key oid items

-- what say understands of the only item with this key
abbrev pub said_once : {I X : Type 0} → (I → List ℕ) → (I → Option X) → List ℕ → List I → Option X
said_once key say oid items = only_one key oid items >>= λ i. say i

-- what was found, or else the other
abbrev pub or_later : {X : Type 0} → Option X → Option X → Option X
or_later None other = other
or_later (Some x) other = Some x

-- What say understands of the first item of which it understands something.
abbrev pub first_said : {I X : Type 0} → (I → Option X) → List I → Option X
first_said say [] = None
first_said say (i ∷ items) = or_later (say i) (first_said say items)
