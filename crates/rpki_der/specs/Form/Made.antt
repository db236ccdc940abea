-- What is made of a part: tests, functions of it, what its octets hold, and what is left out. And
-- how they are read.
use Rattle.std.specs.Prelude.{◌≡◌, ℕ, List, [], Option, None, Some, unwrap_or, ◌⊎◌}
use Rattle.rpki_der.specs.Numbers.{MAX_DEPTH}
use Rattle.rpki_der.specs.declared.mode.Mode.{Mode}
use Rattle.rpki_der.specs.Grammar.{Front, Optional, OctetString, OctetsInBits}
use Rattle.rpki_der.specs.Read.Parse.{Parser, ◌>>=◌, optional, taken, whole}

-- what M understands of what is in G
abbrev pub Understood : {X Y : Type 0} → (X → Y → Type 0) → (List ℕ → X → Type 0) → List ℕ → Y
    → Type 0
Understood {X} M G octets y = (x : X) × G octets x × M x y

-- The octets are in G, and y is what f makes of what they mean there.
abbrev pub Made : {X Y : Type 0} → (X → Y) → (List ℕ → X → Type 0) → List ℕ → Y → Type 0
Made {X} f G octets y = (x : X) × G octets x × (y ≡ f x)

-- The octets are in G, and f makes y of what they mean there. (Of some values f makes nothing.)
abbrev pub Partly : {X Y : Type 0} → (X → Option Y) → (List ℕ → X → Type 0) → List ℕ → Y → Type 0
Partly {X} f G octets y = (x : X) × G octets x × (f x ≡ Some y)

-- The octets are in G, whatever they mean there.
abbrev pub Ignored : {X : Type 0} → (List ℕ → X → Type 0) → List ℕ → Type 0
Ignored {X} G octets = (x : X) × G octets x

-- The octets are in G and mean x there, and kept are these octets.
abbrev pub WithOctets : {X : Type 0} → (List ℕ → X → Type 0) → List ℕ → X → List ℕ → Type 0
WithOctets G octets x kept = G octets x × (kept ≡ octets)

-- DEFAULT: what may be there, and else this (X.680, section 25). That the default may be written
-- in DER too, against X.690, section 11.5, is this project's own rule.
abbrev pub Default : {X : Type 0} → X → (List ℕ → X → Type 0) → List ℕ → X → Type 0
Default {X} default G octets x =
    (written : Option X) × Optional G octets written × (x ≡ unwrap_or written default)

-- CHOICE of two kinds, told apart by their tags (X.690, section 8.13)
abbrev pub Choice : {X : Type 0} → (List ℕ → X → Type 0) → (List ℕ → X → Type 0) → List ℕ → X
    → Type 0
Choice G H octets x = G octets x ⊎ H octets x

-- some beginning of the octets is in G, and means x
abbrev pub Begins : {X : Type 0} → (List ℕ → X → Type 0) → List ℕ → X → Type 0
Begins G octets x = (rest : List ℕ) × Front G octets x rest

-- an OCTET STRING that holds another value: its octets are in G (X.690, section 8.7)
abbrev pub OctetStringHolding : {X : Type 0} → Mode → (List ℕ → X → Type 0) → List ℕ → X
    → Type 0
OctetStringHolding mode G octets x =
    (string : List ℕ) × OctetString mode MAX_DEPTH octets string × G string x

-- a BIT STRING that holds another value: it has no unused bits, and its octets are in G (X.690,
-- section 8.6)
abbrev pub BitStringHolding : {X : Type 0} → Mode → (List ℕ → X → Type 0) → List ℕ → X → Type 0
BitStringHolding mode G octets x =
    (string : List ℕ) × OctetsInBits mode octets string × G string x

-- ---- as functions

-- what f understands of what p reads, where it understands something
abbrev pub understood : {X Y : Type 0} → (Mode → X → Option Y) → Parser X → Parser Y
understood f p mode bytes = p mode bytes >>= λ u. (f mode u.0 >>= λ y. Some (y, u.1))

-- what f makes of what p reads
abbrev pub made : {X Y : Type 0} → (X → Y) → Parser X → Parser Y
made f p mode bytes = p mode bytes >>= λ u. Some (f u.0, u.1)

-- what f makes of what p reads, where it makes something
abbrev pub partly : {X Y : Type 0} → (X → Option Y) → Parser X → Parser Y
partly f p mode bytes = p mode bytes >>= λ u. (f u.0 >>= λ y. Some (y, u.1))

-- p reads, and what it reads is left out
abbrev pub ignored : {X : Type 0} → Parser X → Parser (Unit {0})
ignored p mode bytes = p mode bytes >>= λ u. Some (tt, u.1)

-- what p reads, with its octets
abbrev pub with_octets : {X : Type 0} → Parser X → Parser (X × List ℕ)
with_octets p mode bytes = p mode bytes >>= λ u. Some ((u.0, taken bytes u.1), u.1)

-- what p reads where a value with this tag is next, and else the default
abbrev pub default_at : {X : Type 0} → X → ℕ → Parser X → Parser X
default_at default tag p mode bytes =
    optional tag p mode bytes >>= λ u. Some (unwrap_or u.0 default, u.1)

-- what was read, or else the other
abbrev pub or_read : {X : Type 0} → Option X → List ℕ → Option (X × List ℕ) → Option (X × List ℕ)
or_read (Some x) rest other = Some (x, rest)
or_read None rest other = other

-- what p reads where a value with this tag is next, and else what q reads
abbrev pub choice_at : {X : Type 0} → ℕ → Parser X → Parser X → Parser X
choice_at tag p q mode bytes = optional tag p mode bytes >>= λ u. or_read u.0 u.1 (q mode u.1)

-- what p reads at the front
abbrev pub front_of : {X : Type 0} → Parser X → Mode → List ℕ → Option X
front_of p mode octets = p mode octets >>= λ u. Some u.0

-- p reads all that is left
abbrev pub to_end : {X : Type 0} → Parser X → Parser X
to_end p mode bytes = whole (p mode bytes) >>= λ x. Some (x, [])

-- what p reads of all the octets
abbrev pub all_read : {X : Type 0} → Parser X → Mode → List ℕ → Option X
all_read p mode octets = whole (p mode octets)
