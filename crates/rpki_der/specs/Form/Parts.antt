-- Forms as the lists of their parts, in the order of the ASN.1, and how they are read. The sections
-- are those of X.690.
use Rattle.std.specs.Prelude.{◌≡◌, ℕ, List, [], ◌∷◌, ◌++◌, Some}
use Rattle.rpki_der.specs.declared.mode.Mode.{Mode}
use Rattle.rpki_der.specs.Grammar.{Value, Within, Items}
use Rattle.rpki_der.specs.Read.Parse.{Parser, ◌>>=◌, in_value, primitive, many, optional}
use Rattle.rpki_der.specs.Tags.{SEQUENCE, SET, context, context_primitive}

-- The octets are these parts, one after the other.
abbrev pub Parts : List (List ℕ → Type 0) → List ℕ → Type 0
Parts [] octets = octets ≡ []
Parts (part ∷ parts) octets =
    (first : List ℕ) × (others : List ℕ) × (octets ≡ first ++ others)
    × part first × Parts parts others

-- SEQUENCE { .. } of these parts (8.9)
abbrev pub Sequence : Mode → List (List ℕ → Type 0) → List ℕ → Type 0
Sequence mode parts octets = Within mode SEQUENCE (Parts parts) octets

-- SET { .. } of these parts, in this order. The standard has them in any order in BER (8.11) and in
-- the order of their tags in DER (10.3); the SETs of the formats have one member, where each order
-- is the same.
abbrev pub Set : Mode → List (List ℕ → Type 0) → List ℕ → Type 0
Set mode parts octets = Within mode SET (Parts parts) octets

-- SEQUENCE OF what is in G (8.10)
abbrev pub SequenceOf : {X : Type 0} → Mode → (List ℕ → X → Type 0) → List ℕ → List X → Type 0
SequenceOf mode G octets xs = Within mode SEQUENCE (λ c. Items G c xs) octets

-- SET OF what is in G, in any order (8.12). That in DER too any order is taken, where 11.6 has the
-- ascending one, is this project's own rule.
abbrev pub SetOf : {X : Type 0} → Mode → (List ℕ → X → Type 0) → List ℕ → List X → Type 0
SetOf mode G octets xs = Within mode SET (λ c. Items G c xs) octets

-- [n] EXPLICIT, n below 31: a value of the context tag n that holds what is in G (8.14.2)
abbrev pub Explicit : ℕ → Mode → (List ℕ → Type 0) → List ℕ → Type 0
Explicit n mode G octets = Within mode (context n) G octets

-- [n] IMPLICIT SEQUENCE { .. } of these parts, n below 31; of a SET { .. } with one member too
-- (8.14.3)
abbrev pub Implicit : ℕ → Mode → List (List ℕ → Type 0) → List ℕ → Type 0
Implicit n mode parts octets = Within mode (context n) (Parts parts) octets

-- [n] IMPLICIT SEQUENCE OF or SET OF what is in G, n below 31 (8.14.3)
abbrev pub ImplicitOf : {X : Type 0} → ℕ → Mode → (List ℕ → X → Type 0) → List ℕ → List X → Type 0
ImplicitOf n mode G octets xs = Within mode (context n) (λ c. Items G c xs) octets

-- [n] IMPLICIT of a string with these octets, n below 31 (8.14.3). That it has one piece in BER too
-- is this project's own rule.
abbrev pub ImplicitString : ℕ → Mode → List ℕ → List ℕ → Type 0
ImplicitString n mode octets string = Value mode octets (context_primitive n) string

-- ---- as functions

-- what p reads, and then what q reads, which may depend on it
abbrev pub and_then : {X Y : Type 0} → Parser X → (X → Parser Y) → Parser Y
and_then p q mode bytes = p mode bytes >>= λ u. q u.0 mode u.1

-- a SEQUENCE whose contents are read by p
abbrev pub sequence_at : {X : Type 0} → Parser X → Parser X
sequence_at p = in_value SEQUENCE p

-- a SET whose contents are read by p
abbrev pub set_at : {X : Type 0} → Parser X → Parser X
set_at p = in_value SET p

-- values with this tag that are read by p, one after the other
abbrev pub items_at : {X : Type 0} → ℕ → Parser X → Parser (List X)
items_at tag p = many (optional tag p)

-- a SEQUENCE OF values with this tag that are read by p
abbrev pub sequence_of_at : {X : Type 0} → ℕ → Parser X → Parser (List X)
sequence_of_at tag p = in_value SEQUENCE (items_at tag p)

-- a SET OF values with this tag that are read by p
abbrev pub set_of_at : {X : Type 0} → ℕ → Parser X → Parser (List X)
set_of_at tag p = in_value SET (items_at tag p)

-- [n], constructed, whose contents are read by p
abbrev pub context_at : {X : Type 0} → ℕ → Parser X → Parser X
context_at n p = in_value (context n) p

-- the octets of [n] IMPLICIT of a string in one piece
abbrev pub implicit_string_at : ℕ → Parser (List ℕ)
implicit_string_at n = primitive (context_primitive n) Some
