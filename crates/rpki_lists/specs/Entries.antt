-- Lists that are kept as the octets of their entries.
use Rattle.std.specs.Prelude.{◌≡◌, ◌<◌, ℕ, List, [], length, Option, None, Some}
use Rattle.std.specs.Prelude.{Result, Ok, Err}
use Rattle.rpki_der.specs.Tags.{SEQUENCE}
use Rattle.rpki_der.specs.declared.mode.Mode.TheVariants.{Der}
use Rattle.rpki_der.specs.Read.Parse.{Parser, all_of, primitive}

-- the list that was found, or none
abbrev pub or_empty : {X : Type 0} → Option (List X) → List X
or_empty None = []
or_empty (Some xs) = xs

-- the entries that the octets are in DER
abbrev pub entries_of : {X : Type 0} → Parser X → List ℕ → List X
entries_of p octets = or_empty (all_of p Der octets)

-- The octets are entries in DER, one after the other.
abbrev pub HoldEntries : {X : Type 0} → Parser X → List ℕ → Type 0
HoldEntries {X} p octets = (xs : List X) × (all_of p Der octets ≡ Some xs)

-- A SEQUENCE OF entries, each of which p reads. That the entries stand in DER in a reader of BER too
-- is this project's own rule.
abbrev pub list_at : {X : Type 0} → Parser X → Parser (List X)
list_at p mode bytes = primitive SEQUENCE (all_of p Der) mode bytes

-- Each entry has an octet at least.
abbrev pub Shrinks : {X : Type 0} → Parser X → Type 0
Shrinks {X} p = (b : List ℕ) (x : X) (r : List ℕ) → p Der b ≡ Some (x, r) → length r < length b

-- An entry is gone past, where there is one.
abbrev pub PassesFront : {X E : Type 0} → Parser X → List ℕ → Result (Unit {0}) E → List ℕ → Type 0
PassesFront {X} p old (Ok u) new = (x : X) × (p Der old ≡ Some (x, new))
PassesFront p old (Err e) new = p Der old ≡ None
