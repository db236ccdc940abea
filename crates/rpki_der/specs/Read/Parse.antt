-- Reading as functions on lists: the value at the front, and what follows it.
use Rattle.std.specs.Prelude.{◌≡◌, ℕ, zero, suc, ◌++◌, ◌-◌, List, [], ◌∷◌, length, take}
use Rattle.std.specs.Prelude.{drop, Option, None, Some, Bool, true, false, nat_lt, ◌==◌}
use Rattle.std.specs.Prelude.{if◌then◌else◌}
use Rattle.std.specs.List.{list_all, concat}
use Rattle.std.specs.Str.{bytes_eq}
use Rattle.rpki_der.specs.Tags.{BOOLEAN, INTEGER, BIT_STRING, OCTET_STRING, OCTET_STRING_IN_PIECES}
use Rattle.rpki_der.specs.Tags.{OBJECT_IDENTIFIER, IA5_STRING}
use Rattle.rpki_der.specs.Numbers.{MAX_DEPTH, number, least}
use Rattle.rpki_der.specs.Oid.{is_oid}
use Rattle.rpki_der.specs.Bits.{are_bits}
use Rattle.rpki_der.specs.Identifier.{is_tag, is_constructed}
use Rattle.rpki_der.specs.declared.mode.Mode.{Mode}
use Rattle.rpki_der.specs.declared.mode.Mode.TheVariants.{Der, Ber}

-- what stands at the front of octets, by the rules of a mode, and what follows it
abbrev pub Parser : Type 0 → Type 0
Parser X = Mode → List ℕ → Option (X × List ℕ)

-- What b finds from what a found, and nothing where a found nothing.
infixl 10 ◌>>=◌
abbrev pub ◌>>=◌ : {A B : Type 0} → Option A → (A → Option B) → Option B
(Some x) >>= f = f x
None >>= f = None

-- a number of at most this number of octets
unfoldable pub number_of : ℕ → List ℕ → Option ℕ
number_of most digits = if nat_lt most (length digits) then None else Some (number 0 digits)

-- a length that has to be at least low to be in the shortest form
abbrev pub shortest : Mode → ℕ → ℕ → List ℕ → Option (ℕ × List ℕ)
shortest Der low n rest = if nat_lt n low then None else Some (n, rest)
shortest Ber low n rest = Some (n, rest)

-- a length of k octets
unfoldable pub long_at : ℕ → Parser ℕ
long_at k mode bytes =
    if nat_lt (length bytes) k then None else shortest mode (least k) (number 0 (take k bytes))
    (drop k bytes)

-- a length (X.690, section 8.1.3), and what follows it
unfoldable pub length_at : Parser ℕ
length_at mode [] = None
length_at mode (b ∷ rest) =
    if nat_lt b 0x80 then Some
    (b, rest) else if nat_lt b 0x81 then None else if nat_lt 0x84 b then None else long_at
    (b - 0x80) mode rest

-- the contents after a length, and what follows them
unfoldable pub contents_at : Parser (List ℕ)
contents_at mode bytes = do
  n ← length_at mode bytes
  if nat_lt (length n.1) n.0 then None else Some (take n.0 n.1, drop n.0 n.1)

-- one step after this identifier and this octet of a length
unfoldable pub value_step : ℕ → ℕ → ℕ → List ℕ → Option (Option ℕ × List ℕ)
value_step depth t l b =
    if is_tag t then (if l == 0x80 then
    (if is_constructed t then Some (Some (suc depth), b) else None) else contents_at Ber (l ∷ b)
    >>= λ v. Some (Some depth, v.1)) else None

-- how many values of indefinite length are left open at an end
abbrev pub outer : ℕ → Option ℕ
outer zero = None
outer (suc depth) = Some depth

-- One step: past an end, past a value of definite length, or into one of indefinite length. How
-- many are open within then, and what follows.
unfoldable pub step : ℕ → List ℕ → Option (Option ℕ × List ℕ)
step depth [] = None
step depth (t ∷ []) = None
step depth (t ∷ l ∷ b) =
    if t == 0 then (if l == 0 then Some (outer depth, b) else None) else value_step depth t l b

-- what follows a step: the rest after the last end, or what is found from there on
abbrev pub follow : (ℕ → List ℕ → Option (List ℕ)) → Option (Option ℕ × List ℕ) → Option (List ℕ)
follow go None = None
follow go (Some (None, rest)) = Some rest
follow go (Some (Some k, b)) = go k b

-- What follows the end of the contents, where depth values of indefinite length are open within
-- them, if it is found in at most n steps.
unfoldable pub scan : ℕ → ℕ → List ℕ → Option (List ℕ)
scan zero depth b = None
scan (suc n) depth b = follow (scan n) (step depth b)

-- What follows the end of the contents, where depth values of indefinite length are open within
-- them. Each step takes an octet at least.
unfoldable pub end_of : ℕ → List ℕ → Option (List ℕ)
end_of depth b = scan (suc (length b)) depth b

-- the octets before an end that the rest follows
abbrev pub before_end : List ℕ → List ℕ → List ℕ
before_end octets rest = take (length octets - length rest - 2) octets

-- the contents up to an end, and what follows it
unfoldable pub indefinite_at : ℕ → Parser (List ℕ)
indefinite_at tag Der bytes = None
indefinite_at tag Ber bytes =
    if is_constructed tag then
    (end_of 0 bytes >>= λ rest. Some (before_end bytes rest, rest)) else None

-- the contents after this identifier, and what follows the value
unfoldable pub body_at : ℕ → Parser (List ℕ)
body_at tag mode [] = None
body_at tag mode (l ∷ bytes) =
    if is_tag tag then (if l == 0x80 then indefinite_at tag mode bytes else contents_at mode
    (l ∷ bytes)) else None

-- the contents of a value with this tag, and what follows the value
unfoldable pub value_at : ℕ → Parser (List ℕ)
value_at tag mode [] = None
value_at tag mode (t ∷ bytes) = if t == tag then body_at tag mode bytes else None

-- the tag and the contents of any value, and what follows it
unfoldable pub any_at : Parser (ℕ × List ℕ)
any_at mode [] = None
any_at mode (t ∷ bytes) = body_at t mode bytes >>= λ v. Some ((t, v.0), v.1)

-- all of the contents are read
abbrev pub whole : {X : Type 0} → Option (X × List ℕ) → Option X
whole None = None
whole (Some (x, [])) = Some x
whole (Some (x, b ∷ r)) = None

-- a value with this tag, whose contents are read by p, all of them
abbrev pub in_value : {X : Type 0} → ℕ → Parser X → Parser X
in_value tag p mode bytes = do
  v ← value_at tag mode bytes
  x ← whole (p mode v.0)
  Some (x, v.1)

-- the digits to base 256 of a number that is not negative, from the contents of an INTEGER in its
-- shortest form
unfoldable pub digits_of : List ℕ → Option (List ℕ)
digits_of [] = None
digits_of (a ∷ []) = if nat_lt a 128 then Some (a ∷ []) else None
digits_of (a ∷ b ∷ rest) =
    if nat_lt a 128 then (if a == 0 then (if nat_lt b 128 then None else Some (b ∷ rest)) else Some
    (a ∷ b ∷ rest)) else None

-- The number that the shortest contents of an INTEGER say, not negative, and of at most this number
-- of octets without the 0 that says that it is not negative (X.690, section 8.3).
unfoldable pub unsigned_of : ℕ → List ℕ → Option ℕ
unsigned_of most contents = do
  digits ← digits_of contents
  number_of most digits

-- a value with this tag, whose contents f understands
abbrev pub primitive : {X : Type 0} → ℕ → (List ℕ → Option X) → Parser X
primitive tag f mode bytes = do
  v ← value_at tag mode bytes
  x ← f v.0
  Some (x, v.1)

-- an INTEGER from 0 to 255
abbrev pub u8_at : Parser ℕ
u8_at = primitive INTEGER (unsigned_of 1)

-- an INTEGER from 0 to 2^32 - 1
abbrev pub u32_at : Parser ℕ
u32_at = primitive INTEGER (unsigned_of 4)

-- an INTEGER of at most 20 octets, without the 0 that says that it is not negative
abbrev pub u160_at : Parser ℕ
u160_at = primitive INTEGER (unsigned_of 20)

-- the contents of an INTEGER that is exactly this number, from 0 to 255
abbrev pub this : ℕ → List ℕ → Option (Unit {0})
this n contents = unsigned_of 1 contents >>= λ m. if m == n then Some tt else None

-- the contents of a BOOLEAN
unfoldable pub boolean_of : Mode → List ℕ → Option Bool
boolean_of mode [] = None
boolean_of Der (b ∷ []) = if b == 0 then Some false else if b == 255 then Some true else None
boolean_of Ber (b ∷ []) = if b == 0 then Some false else Some true
boolean_of mode (a ∷ b ∷ rest) = None

-- a BOOLEAN (X.690, section 8.2)
abbrev pub boolean_at : Parser Bool
boolean_at mode bytes = primitive BOOLEAN (boolean_of mode) mode bytes

-- the contents of a NULL
unfoldable pub null_of : List ℕ → Option (Unit {0})
null_of [] = Some tt
null_of (b ∷ rest) = None

-- the contents of an OBJECT IDENTIFIER
unfoldable pub oid_of : List ℕ → Option (List ℕ)
oid_of contents = if is_oid contents then Some contents else None

-- an OBJECT IDENTIFIER (X.690, section 8.19)
abbrev pub oid_at : Parser (List ℕ)
oid_at = primitive OBJECT_IDENTIFIER oid_of

-- exactly these contents
unfoldable pub these : List ℕ → List ℕ → Option (Unit {0})
these octets contents = if bytes_eq contents octets then Some tt else None

-- the contents of a BIT STRING: the octets after the first, and the number of bits that are not
-- used
unfoldable pub bits_of : List ℕ → Option (List ℕ × ℕ)
bits_of [] = None
bits_of (unused ∷ octets) = if are_bits octets unused then Some (octets, unused) else None

-- a BIT STRING: its octets, and how many bits of the last one are not used (X.690, section 8.6)
abbrev pub bits_at : Parser (List ℕ × ℕ)
bits_at = primitive BIT_STRING bits_of

-- the contents of a BIT STRING all of whose bits are used
unfoldable pub whole_octets_of : List ℕ → Option (List ℕ)
whole_octets_of [] = None
whole_octets_of (unused ∷ octets) = if unused == 0 then Some octets else None

-- the octets of a BIT STRING all of whose bits are used (X.690, section 8.6)
abbrev pub octets_in_bits_at : Parser (List ℕ)
octets_in_bits_at = primitive BIT_STRING whole_octets_of

-- the contents of an IA5String
unfoldable pub ia5_of : List ℕ → Option (List ℕ)
ia5_of contents = if list_all (λ b. nat_lt b 128) contents then Some contents else None

-- an IA5String (X.690, section 8.23)
abbrev pub ia5_at : Parser (List ℕ)
ia5_at = primitive IA5_STRING ia5_of

-- whether this tag is next: the first octet is it, whatever follows
abbrev pub is_next : ℕ → List ℕ → Bool
is_next tag [] = false
is_next tag (t ∷ bytes) = t == tag

-- what was found, as a thing that may be there
abbrev pub some_of : {X : Type 0} → Option (X × List ℕ) → Option (Option X × List ℕ)
some_of None = None
some_of (Some x) = Some (Some x.0, x.1)

-- what p reads where this tag is next, and else nothing, and then no octet is taken
abbrev pub optional : {X : Type 0} → ℕ → Parser X → Parser (Option X)
optional tag p mode bytes = if is_next tag bytes then some_of (p mode bytes) else Some (None, bytes)

-- what was found, after these
abbrev pub with_front : {X : Type 0} → List X → Option (List X × List ℕ) → Option (List X × List ℕ)
with_front front None = None
with_front front (Some (xs, rest)) = Some (front ++ xs, rest)

-- one more where there is one, and else the end
abbrev pub go_on : {X : Type 0} → Option X → List ℕ → Option (List X × List ℕ)
    → Option (List X × List ℕ)
go_on None rest more = Some ([], rest)
go_on (Some x) rest more = with_front (x ∷ []) more

-- what was found, or else the other
abbrev pub or_else : {X : Type 0} → Option X → List ℕ → Option (Option X × List ℕ)
    → Option (Option X × List ℕ)
or_else (Some x) rest other = Some (Some x, rest)
or_else None rest other = other

-- p finds one, or else q
abbrev pub either : {X : Type 0} → Parser (Option X) → Parser (Option X) → Parser (Option X)
either p q mode bytes = p mode bytes >>= λ x. or_else x.0 x.1 (q mode x.1)

-- as many as there are, up to n
unfoldable pub up_to : {X : Type 0} → ℕ → Parser (Option X) → Parser (List X)
up_to zero p mode bytes = Some ([], bytes)
up_to (suc n) p mode bytes = p mode bytes >>= λ o. go_on o.0 o.1 (up_to n p mode o.1)

-- as many as there are, where each has an octet at least
unfoldable pub many : {X : Type 0} → Parser (Option X) → Parser (List X)
many p mode bytes = up_to (suc (length bytes)) p mode bytes

-- all of the octets are read by p, one after the other
unfoldable pub each : {X : Type 0} → ℕ → Parser X → Mode → List ℕ → Option (List X)
each n p mode [] = Some []
each zero p mode (b ∷ bytes) = None
each (suc n) p mode (b ∷ bytes) =
    p mode (b ∷ bytes) >>= λ x. (each n p mode x.1 >>= λ xs. Some (x.0 ∷ xs))

-- All of the octets are read by p, one value after the other, where each has an octet at least.
unfoldable pub all_of : {X : Type 0} → Parser X → Mode → List ℕ → Option (List X)
all_of p mode bytes = each (length bytes) p mode bytes

-- whether it is there
abbrev pub there : {X : Type 0} → Option X → Option (Unit {0})
there None = None
there (Some x) = Some tt

-- the contents of a skipped value are taken
abbrev pub skipped : Parser (Unit {0}) → Mode → ℕ → List ℕ → Option (Unit {0})
skipped p mode tag contents = if is_constructed tag then there (all_of p mode contents) else Some tt

-- past any value that nests at most to this depth
unfoldable pub skip_at : ℕ → Parser (Unit {0})
skip_at zero mode bytes = None
skip_at (suc depth) mode bytes =
    any_at mode bytes >>= λ v. (skipped (skip_at depth) mode v.0.0 v.0.1 >>= λ _. Some (tt, v.1))

-- what was found, in BER alone
abbrev pub in_ber : {X : Type 0} → Mode → Option X → Option X
in_ber Der found = None
in_ber Ber found = found

-- the octets of pieces
abbrev pub pieces : Parser (List ℕ) → Mode → List ℕ → Option (List ℕ)
pieces p mode contents = all_of p mode contents >>= λ parts. Some (concat parts)

-- the octets of an OCTET STRING, from its tag and its contents
abbrev pub string_of : Parser (List ℕ) → Mode → ℕ → List ℕ → Option (List ℕ)
string_of p mode tag contents =
    if tag == OCTET_STRING then Some contents else if tag == OCTET_STRING_IN_PIECES then in_ber mode
    (pieces p mode contents) else None

-- the octets of an OCTET STRING that nests at most to this depth
unfoldable pub octets_at : ℕ → Parser (List ℕ)
octets_at zero mode bytes = None
octets_at (suc depth) mode bytes =
    any_at mode bytes >>= λ v. (string_of (octets_at depth) mode v.0.0 v.0.1 >>= λ s. Some (s, v.1))

-- octets that were read, if any were, with others in front of them
abbrev pub after_others : List ℕ → Option (List ℕ) → Option (List ℕ)
after_others front None = None
after_others front (Some octets) = Some (front ++ octets)

-- the octets that were found are put after the old ones
abbrev pub Appends : {T : Type 0} → (T → List ℕ) → List ℕ → Option T → List ℕ
    → Option (List ℕ × List ℕ) → Type 0
Appends view old None new found = found ≡ None
Appends view old (Some t) new found = (octets : List ℕ) × (found ≡ Some (octets, view t))
    × (new ≡ old ++ octets)

-- the octets before the rest
abbrev pub taken : List ℕ → List ℕ → List ℕ
taken octets rest = take (length octets - length rest) octets

-- the octets that p takes
abbrev pub captured : {X : Type 0} → Parser X → Parser (List ℕ)
captured p mode bytes = do
  x ← p mode bytes
  Some (taken bytes x.1, x.1)

-- what the code found, seen by view, is this
abbrev pub Finds : {T X : Type 0} → (T → X) → Option T → Option X → Type 0
Finds view None found = found ≡ None
Finds view (Some t) found = found ≡ Some (view t)

-- past all that is left
abbrev pub skip_all_at : Parser (Unit {0})
skip_all_at mode bytes = there (all_of (skip_at MAX_DEPTH) mode bytes) >>= λ u. Some (u, [])

-- what p reads, if it passes the test
unfoldable pub tested : {X : Type 0} → (X → Bool) → Parser X → Parser X
tested test p mode bytes = p mode bytes >>= λ x. if test x.0 then Some x else None

-- an OCTET STRING of this length
abbrev pub octets_of : ℕ → Parser (List ℕ)
octets_of n = tested (λ octets. length octets == n) (octets_at MAX_DEPTH)

-- past the next value, whatever it is, or nothing at the end
unfoldable pub skip_opt_at : Parser (Option (Unit {0}))
skip_opt_at mode [] = Some (None, [])
skip_opt_at mode (b ∷ bytes) = some_of (skip_at MAX_DEPTH mode (b ∷ bytes))

-- whether no octet is left
unfoldable pub at_end : Parser Bool
at_end mode [] = Some (true, [])
at_end mode (b ∷ bytes) = Some (false, b ∷ bytes)

-- all that is left is read by p, one after the other
abbrev pub all_at : {X : Type 0} → Parser X → Parser (List X)
all_at p mode bytes = all_of p mode bytes >>= λ xs. Some (xs, [])
