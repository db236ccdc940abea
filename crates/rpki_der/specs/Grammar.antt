-- Values of X.690, and what stands at the front of octets. The sections named are those of X.690.
use Rattle.std.specs.Prelude.{◌≡◌, ◌≢◌, ℕ, ◌+◌, ◌≤◌, ◌<◌, Bool, true, false, ◌⊎◌, List, []}
use Rattle.std.specs.Prelude.{◌∷◌, ◌++◌, length, All, Option, None, Some, zero, suc}
use Rattle.std.specs.List.{concat}
use Rattle.rpki_der.specs.Tags.{BOOLEAN, INTEGER, BIT_STRING, OCTET_STRING, OCTET_STRING_IN_PIECES}
use Rattle.rpki_der.specs.Tags.{NULL, OBJECT_IDENTIFIER, IA5_STRING}
use Rattle.rpki_der.specs.declared.mode.Mode.{Mode}
use Rattle.rpki_der.specs.declared.mode.Mode.TheVariants.{Der, Ber}
use Rattle.rpki_der.specs.Identifier.{IsTag, is_constructed}
use Rattle.rpki_der.specs.Oid.{IsOid}
use Rattle.rpki_der.specs.Bits.{IsBits}
use Rattle.rpki_der.specs.Numbers.{MAX_DEPTH, number, least}

-- Whether a length n may have a form that is for the lengths from low on: in DER where it is one of
-- these (10.1), in BER always.
abbrev pub IsShortest : Mode → ℕ → ℕ → Type 0
IsShortest Der low n = low ≤ n
IsShortest Ber low n = Unit {0}

-- the short form of a length: one octet below 128 (8.1.3.4)
abbrev pub IsShort : List ℕ → ℕ → Type 0
IsShort octets n = (octets ≡ n ∷ []) × (n < 128)

-- The long form of a length: the number of further octets and 128, and then these octets (8.1.3.5).
-- Forms of more than 4 further octets are refused, which is this project's own rule.
abbrev pub IsLong : Mode → List ℕ → ℕ → Type 0
IsLong mode octets n =
    (digits : List ℕ) × (octets ≡ (128 + length digits) ∷ digits) × (1 ≤ length digits)
    × (length digits ≤ 4)
    × (n ≡ number 0 digits) × IsShortest mode (least (length digits)) n

-- the octets are this length, in a definite form (8.1.3.3); in DER in the shortest one (10.1)
abbrev pub IsLength : Mode → List ℕ → ℕ → Type 0
IsLength mode octets n = IsShort octets n ⊎ IsLong mode octets n

mutual
  -- The octets are one value with this tag and these contents (8.1.1): identifier, length and
  -- contents, or in BER, where the tag is that of a constructed value (8.1.3.2), identifier, 80
  -- hexadecimal, values and the end 00 00 (8.1.3.6, 8.1.5). That the contents of a constructed
  -- value with a definite length are values (8.1.4) is not asked here, but by the form of the
  -- contents, which is this project's own rule.
  pub data Value : Mode → List ℕ → ℕ → List ℕ → Type 0 where
    definite : (mode : Mode) (octets : List ℕ) (tag : ℕ) (len contents : List ℕ) → IsTag tag
        → IsLength mode len (length contents) → octets ≡ tag ∷ (len ++ contents)
        → Value mode octets tag contents
    indefinite : (mode : Mode) (octets : List ℕ) (tag : ℕ) (contents : List ℕ) → mode ≡ Ber
        → IsTag tag → is_constructed tag ≡ true → Values mode contents
        → octets ≡ tag ∷ 128 ∷ (contents ++ 0 ∷ 0 ∷ []) → Value mode octets tag contents

  -- the octets are values, one after the other, as between 80 and the end (8.1.5) of a value of
  -- indefinite length
  pub data Values : Mode → List ℕ → Type 0 where
    none : (mode : Mode) (octets : List ℕ) → octets ≡ [] → Values mode octets
    more : (mode : Mode) (octets first others : List ℕ) (tag : ℕ) (contents : List ℕ)
        → octets ≡ first ++ others → Value mode first tag contents → Values mode others
        → Values mode octets

-- one value with this tag, whose contents are in G (8.9 to 8.12, 8.14)
abbrev pub Within : Mode → ℕ → (List ℕ → Type 0) → List ℕ → Type 0
Within mode tag G octets = (contents : List ℕ) × Value mode octets tag contents × G contents

-- some beginning of the octets is in G and means x, and rest follows it
abbrev pub Front : {X : Type 0} → (List ℕ → X → Type 0) → List ℕ → X → List ℕ → Type 0
Front G octets x rest = (front : List ℕ) × (octets ≡ front ++ rest) × G front x

-- each number of the list is below 256
abbrev pub IsBytes : List ℕ → Type 0
IsBytes [] = Unit {0}
IsBytes (b ∷ bytes) = (b < 256) × IsBytes bytes

-- the contents of an INTEGER in its shortest form (8.3.2), which is not negative (8.3.3)
abbrev pub IsInteger : List ℕ → ℕ → Type 0
IsInteger [] n = ⊥
IsInteger (a ∷ []) n = (a < 128) × (n ≡ a)
IsInteger (a ∷ b ∷ rest) n = (a < 128) × (a ≡ 0 → 128 ≤ b) × (n ≡ number 0 (a ∷ b ∷ rest))

-- the octets are an INTEGER with this value (8.3)
abbrev pub Integer : Mode → List ℕ → ℕ → Type 0
Integer mode octets n = Within mode INTEGER (λ c. IsInteger c n) octets

-- the octets are these, one after the other (8.10, 8.12)
abbrev pub Items : {X : Type 0} → (List ℕ → X → Type 0) → List ℕ → List X → Type 0
Items G octets [] = octets ≡ []
Items G octets (x ∷ xs) = (first : List ℕ) × (others : List ℕ) × (octets ≡ first ++ others)
    × G first x × Items G others xs

-- No octets in G are the beginning of others in G: the beginning of given octets that is in G, what
-- it means and what follows it are unique.
abbrev pub IsUnique : {X : Type 0} → (List ℕ → X → Type 0) → Type 0
IsUnique {X} G = (a b : List ℕ) (x y : X) (r s : List ℕ) → G a x → G b y → a ++ r ≡ b ++ s
    → (a ≡ b) × (x ≡ y) × (r ≡ s)

-- the octets are in G, one after the other
abbrev pub ListOf : (List ℕ → Type 0) → List ℕ → Type 0
ListOf G octets = (each : List (Unit {0})) × Items (λ o _. G o) octets each

-- The octets are a value whose contents are skipped: any contents of a primitive value (8.1.4), and
-- values of which this holds in a constructed one (8.1.1, 8.1.4), nested at most to this depth,
-- the outermost value counted. That there is a limit is this project's own rule.
unfoldable pub Skipped : Mode → ℕ → List ℕ → Type 0
Skipped mode zero octets = ⊥
Skipped mode (suc depth) octets = (tag : ℕ) × (contents : List ℕ) × Value mode octets tag contents
    × (is_constructed tag ≡ true → ListOf (Skipped mode depth) contents)

-- The octets are an OCTET STRING of these octets (8.7): one primitive value or, in BER, OCTET
-- STRINGs in a constructed one (8.7.3; not in DER, 10.2), nested at most to this depth, the
-- outermost string counted. That there is a limit is this project's own rule.
unfoldable pub OctetString : Mode → ℕ → List ℕ → List ℕ → Type 0
OctetString mode zero octets string = ⊥
OctetString mode (suc depth) octets string =
    Value mode octets OCTET_STRING string
    ⊎ ((mode ≡ Ber) × (contents : List ℕ) × (pieces : List (List ℕ))
    × Value mode octets OCTET_STRING_IN_PIECES contents
    × Items (OctetString mode depth) contents pieces
    × (string ≡ concat pieces))

-- The contents of a BOOLEAN, one octet (X.690, 8.2). 00 is false. In DER FF alone is true (11.1),
-- in BER every other octet.
abbrev pub IsBoolean : Mode → List ℕ → Bool → Type 0
IsBoolean Der contents b =
    ((contents ≡ 0 ∷ []) × (b ≡ false)) ⊎ ((contents ≡ 255 ∷ []) × (b ≡ true))
IsBoolean Ber contents b = (octet : ℕ) × (contents ≡ octet ∷ [])
    × (((octet ≡ 0) × (b ≡ false)) ⊎ ((octet ≢ 0) × (b ≡ true)))

-- a BOOLEAN that is b (8.2)
abbrev pub Boolean : Mode → List ℕ → Bool → Type 0
Boolean mode octets b = Within mode BOOLEAN (λ c. IsBoolean mode c b) octets

-- a NULL has no contents (8.8)
abbrev pub Null : Mode → List ℕ → Type 0
Null mode octets = Within mode NULL (λ c. c ≡ []) octets

-- an OBJECT IDENTIFIER with these contents (8.19)
abbrev pub ObjectIdentifier : Mode → List ℕ → List ℕ → Type 0
ObjectIdentifier mode octets oid = Within mode OBJECT_IDENTIFIER (λ c. (c ≡ oid) × IsOid oid) octets

-- The contents of a primitive BIT STRING (8.6.2): the number of bits of the last octet that are not
-- used, which `IsBits` allows, and its octets.
abbrev pub IsBitString : List ℕ → List ℕ × ℕ → Type 0
IsBitString contents bits = (contents ≡ bits.1 ∷ bits.0) × IsBits bits.0 bits.1

-- A BIT STRING of these octets and this number of unused bits (8.6). It is primitive, in DER by
-- 10.2, in BER by this project's own rule.
abbrev pub BitString : Mode → List ℕ → List ℕ × ℕ → Type 0
BitString mode octets bits = Within mode BIT_STRING (λ c. IsBitString c bits) octets

-- An IA5String of these characters (8.23): each is below 128. It is primitive, in DER by 10.2, in
-- BER by this project's own rule.
abbrev pub Ia5String : Mode → List ℕ → List ℕ → Type 0
Ia5String mode octets text =
    Within mode IA5_STRING (λ c. (c ≡ text) × All (λ b. b < 128) text) octets

-- an INTEGER from 0 to limit - 1 (8.3)
abbrev pub IntegerBelow : ℕ → Mode → List ℕ → ℕ → Type 0
IntegerBelow limit mode octets n = Within mode INTEGER (λ c. IsInteger c n × (n < limit)) octets

-- an OCTET STRING of this length, which nests at most 32 deep, the outermost string counted (8.7)
abbrev pub OctetStringOf : ℕ → Mode → List ℕ → List ℕ → Type 0
OctetStringOf n mode octets string = OctetString mode MAX_DEPTH octets string × (length string ≡ n)

-- a BIT STRING of these octets, all of whose bits are used (8.6)
abbrev pub OctetsInBits : Mode → List ℕ → List ℕ → Type 0
OctetsInBits mode octets string = BitString mode octets (string, 0)

-- What may be there: octets in G with what they mean there, or no octets and no meaning.
abbrev pub Optional : {X : Type 0} → (List ℕ → X → Type 0) → List ℕ → Option X → Type 0
Optional G octets None = octets ≡ []
Optional G octets (Some x) = G octets x

-- no beginning of the octets is in the grammar
abbrev pub HasNoFront : {X : Type 0} → (List ℕ → X → Type 0) → List ℕ → Type 0
HasNoFront {X} grammar octets = (x : X) (rest : List ℕ) → Front grammar octets x rest → ⊥
