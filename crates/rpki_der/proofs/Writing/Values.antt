-- values of each kind are written so that they are read again
use Rattle.std.proofs.Common.{◌≡◌, ℕ, zero, suc, ◌-◌, ◌≤◌, ◌<◌, ◌^◌, Bool, true, false, List, []}
use Rattle.std.proofs.Common.{◌∷◌, ◌++◌, length, All, Some, refl, sym, ap, ◌∙◌, subst, arith, inl}
use Rattle.std.proofs.Common.{inr}
use Rattle.std.specs.List.{flat_map, list_all}
use Rattle.std.specs.Prelude.{nat_lt}
use Rattle.std.specs.Int.{w32, to_be_bytes}
use Rattle.std.proofs.lemmas.Bool.{lt-ltb}
use Rattle.std.proofs.lemmas.List.{take_at, length-append}
use Rattle.rpki_der.specs.Tags.{BOOLEAN, INTEGER, OCTET_STRING, NULL, OBJECT_IDENTIFIER, IA5_STRING}
use Rattle.rpki_der.specs.Tags.{SEQUENCE}
use Rattle.rpki_der.specs.declared.mode.Mode.{Mode}
use Rattle.rpki_der.specs.declared.mode.Mode.TheVariants.{Der, Ber}
use Rattle.rpki_der.specs.Identifier.{IsTag, is_constructed}
use Rattle.rpki_der.specs.Oid.{IsOid}
use Rattle.rpki_der.specs.Read.Parse.{value_at, in_value, primitive, unsigned_of, u8_at, u32_at}
use Rattle.rpki_der.specs.Read.Parse.{boolean_of, null_of, oid_of, ia5_of, octets_at, skip_at, many}
use Rattle.rpki_der.specs.Read.Parse.{optional, captured, taken}
use Rattle.rpki_der.specs.Numbers.{number}
use Rattle.rpki_der.specs.Grammar.{Value, Within, IsBytes, IsInteger, Integer, IsBoolean, Boolean}
use Rattle.rpki_der.specs.Grammar.{OctetString, Skipped, ListOf, Items}
use Rattle.rpki_der.specs.Write.Written.{value_octets, number_octets, integer_contents}
use Rattle.rpki_der.specs.Write.Written.{boolean_contents}
use Rattle.rpki_der.proofs.Reading.Scan.{tag-sound}
use Rattle.rpki_der.proofs.Reading.Lengths.{bind_some, some_is}
use Rattle.rpki_der.proofs.Reading.Exact.{value-sound, IsBytes-left}
use Rattle.rpki_der.proofs.Reading.Integers.{exact-u32, exact-unsigned, holds1, exact-list}
use Rattle.rpki_der.proofs.Reading.Strings.{exact-octets}
use Rattle.rpki_der.proofs.Reading.Skips.{exact-skip}
use Rattle.rpki_der.proofs.Reading.Unique.{octets-ber, skipped-ber}
use Rattle.rpki_der.proofs.Writing.Lengths.{value-written, value-unique}
use Rattle.rpki_der.proofs.Writing.Numbers.{number-digits, length-integer_contents, integer-is}
use Rattle.rpki_der.proofs.Writing.Numbers.{contents-unique, digits-unique}
use Rattle.rpki_der.proofs.Writing.Leaves.{value-in, primitive-read, within-unique, within-only}
use Rattle.rpki_der.proofs.Writing.Leaves.{items-written, items-unique}

-- ---- numbers of 32 bits

short-number : (n : ℕ) → length (integer_contents (to_be_bytes w32 n)) < 2 ^ 32
short-number n = let h = length-integer_contents (to_be_bytes w32 n) in omega (arith, h)

pub number-is : (n : ℕ) → n < 2 ^ 32 → IsInteger (integer_contents (to_be_bytes w32 n)) n
number-is n h = subst (λ (m : ℕ). IsInteger (integer_contents (to_be_bytes w32 n)) m)
    (number-digits n h) (integer-is (to_be_bytes w32 n))

pub number-in : (mode : Mode) (n : ℕ) → n < 2 ^ 32
    → Within mode INTEGER (λ e. IsInteger e n × (n < 2 ^ 32)) (number_octets n)
unfolding number_octets
number-in mode n h = (
  integer_contents (to_be_bytes w32 n),
  value-in mode 2 (integer_contents (to_be_bytes w32 n)) (tag-sound 2 refl) (short-number n),
  (number-is n h, h),
)

pub number-written : (n : ℕ) → n < 2 ^ 32 → Integer Der (number_octets n) n
number-written n h = let w = number-in Der n h in (w.0, w.1, w.2.0)

pub number-read : (mode : Mode) (n : ℕ) (rest : List ℕ) → n < 2 ^ 32
    → u32_at mode (number_octets n ++ rest) ≡ Some (n, rest)
number-read mode n rest h =
    (exact-u32 mode).complete (number_octets n) n rest tt (number-in mode n h)

pub u8-read : (mode : Mode) (n : ℕ) (rest : List ℕ) → n < 256
    → u8_at mode (number_octets n ++ rest) ≡ Some (n, rest)
unfolding number_octets
u8-read mode n rest h =
    let e : unsigned_of 1 (integer_contents (to_be_bytes w32 n)) ≡ Some n =
    (exact-unsigned 1 256 holds1 (omega arith)).complete
    (integer_contents (to_be_bytes w32 n)) n (number-is n (omega arith), h) in
    primitive-read 2 (unsigned_of 1) mode (integer_contents (to_be_bytes w32 n)) rest n
    (tag-sound 2 refl) (short-number n) e

pub number-unique : (o : List ℕ) (n : ℕ) → IsBytes o → n < 2 ^ 32 → Integer Der o n
    → o ≡ number_octets n
unfolding number_octets
number-unique o n bytes lt h =
    within-only 2 (λ c. IsInteger c n) o (integer_contents (to_be_bytes w32 n)) bytes
    (λ c inner is. contents-unique c n inner lt is) h

pub integer-unique : (o digits : List ℕ) → IsBytes o → IsBytes digits
    → Integer Der o (number 0 digits) → o ≡ value_octets INTEGER (integer_contents digits)
integer-unique o digits bytes own h =
    within-only 2 (λ c. IsInteger c (number 0 digits)) o (integer_contents digits) bytes
    (λ c inner is. digits-unique c digits inner own is) h

-- ---- lists of them

pub list-written : (ns : List ℕ) → All (λ n. n < 2 ^ 32) ns
    → length (flat_map number_octets ns) < 2 ^ 32
    → Within Der SEQUENCE (λ c. Items (Integer Der) c ns)
    (value_octets SEQUENCE (flat_map number_octets ns))
list-written ns h short = (
  flat_map number_octets ns,
  value-written 48 (flat_map number_octets ns) (tag-sound 48 refl) short,
  items-written (Integer Der) number_octets ns (λ i d l. number-written _ (h i d l)),
)

-- an INTEGER and that it is below 2^32
number-only : (d : List ℕ) (n : ℕ) → IsBytes d → (Integer Der d n × (n < 2 ^ 32))
    → d ≡ number_octets n
number-only d n bytes h = number-unique d n bytes h.1 h.0

pub list-unique : (o ns : List ℕ) → IsBytes o
    → Within Der SEQUENCE (λ c. Items (λ d n. Integer Der d n × (n < 2 ^ 32)) c ns) o
    → o ≡ value_octets SEQUENCE (flat_map number_octets ns)
list-unique o ns bytes h =
    within-only 48 (λ c. Items (λ d n. Integer Der d n × (n < 2 ^ 32)) c ns) o
    (flat_map number_octets ns) bytes
    (λ c inner. items-unique
    (λ d n. Integer Der d n × (n < 2 ^ 32)) number_octets number-only c ns inner) h

pub list-read : (mode : Mode) (ns rest : List ℕ) → All (λ n. n < 2 ^ 32) ns
    → length (flat_map number_octets ns) < 2 ^ 32
    → in_value SEQUENCE (many (optional INTEGER u32_at)) mode
    (value_octets SEQUENCE (flat_map number_octets ns) ++ rest) ≡ Some (ns, rest)
list-read mode ns rest h short =
    (exact-list mode).complete (value_octets SEQUENCE (flat_map number_octets ns)) ns rest tt (
      flat_map number_octets ns,
      value-in mode 48 (flat_map number_octets ns) (tag-sound 48 refl) short,
      items-written (λ d n. Within mode INTEGER (λ e. IsInteger e n × (n < 2 ^ 32)) d)
          number_octets ns (λ i d l. number-in mode _ (h i d l)),
    )

-- ---- BOOLEANs

is_boolean : (b : Bool) → IsBoolean Der (boolean_contents b) b
is_boolean true = inr (refl, refl)
is_boolean false = inl (refl, refl)

pub boolean-written : (b : Bool) → Boolean Der (value_octets BOOLEAN (boolean_contents b)) b
boolean-written b = (
  boolean_contents b,
  value-written 1 (boolean_contents b) (tag-sound 1 refl) (omega arith),
  is_boolean b,
)

boolean-contents : (b : Bool) (c : List ℕ) → IsBoolean Der c b → c ≡ boolean_contents b
boolean-contents b c (inl h) = h.0 ∙ ap boolean_contents (sym h.1)
boolean-contents b c (inr h) = h.0 ∙ ap boolean_contents (sym h.1)

pub boolean-unique : (o : List ℕ) (b : Bool) → IsBytes o → Boolean Der o b
    → o ≡ value_octets BOOLEAN (boolean_contents b)
boolean-unique o b bytes h =
    within-unique 1 (λ c. IsBoolean Der c b) o (boolean_contents b) bytes (boolean-contents b) h

boolean-of : (mode : Mode) (b : Bool) → boolean_of mode (boolean_contents b) ≡ Some b
unfolding boolean_of
boolean-of Der true = refl
boolean-of Der false = refl
boolean-of Ber true = refl
boolean-of Ber false = refl

pub boolean-read : (mode : Mode) (b : Bool) (rest : List ℕ)
    → primitive BOOLEAN (boolean_of mode) mode (value_octets BOOLEAN (boolean_contents b) ++ rest)
    ≡ Some (b, rest)
boolean-read mode b rest =
    primitive-read 1 (boolean_of mode) mode (boolean_contents b) rest b (tag-sound 1 refl)
    (omega arith) (boolean-of mode b)

-- ---- NULLs, OBJECT IDENTIFIERs, IA5Strings

null-of : null_of [] ≡ Some tt
unfolding null_of
null-of = refl

pub null-read : (mode : Mode) (rest : List ℕ)
    → primitive NULL null_of mode (value_octets NULL [] ++ rest) ≡ Some (tt, rest)
null-read mode rest =
    primitive-read 5 null_of mode [] rest tt (tag-sound 5 refl) (omega arith) null-of

oid-of : (oid : List ℕ) → IsOid oid → oid_of oid ≡ Some oid
unfolding oid_of
oid-of oid h = rw (lt-ltb _ _ h.0, lt-ltb _ _ h.1) refl

pub oid-read : (mode : Mode) (oid rest : List ℕ) → IsOid oid → length oid < 2 ^ 32
    → primitive OBJECT_IDENTIFIER oid_of mode (value_octets OBJECT_IDENTIFIER oid ++ rest)
    ≡ Some (oid, rest)
oid-read mode oid rest h short =
    primitive-read 6 oid_of mode oid rest oid (tag-sound 6 refl) short (oid-of oid h)

pub all-below : (text : List ℕ) → All (λ b. b < 128) text → list_all (λ b. nat_lt b 128) text ≡ true
all-below [] h = refl
all-below (b ∷ text) h =
    rw (lt-ltb b 128 (h 0 b (omega arith)))
    (all-below text (λ i d l. h (suc i) d (omega (arith, l))))

ia5-of : (text : List ℕ) → All (λ b. b < 128) text → ia5_of text ≡ Some text
unfolding ia5_of
ia5-of text h = rw (all-below text h) refl

pub ia5-read : (mode : Mode) (text rest : List ℕ) → All (λ b. b < 128) text → length text < 2 ^ 32
    → primitive IA5_STRING ia5_of mode (value_octets IA5_STRING text ++ rest) ≡ Some (text, rest)
ia5-read mode text rest h short =
    primitive-read 22 ia5_of mode text rest text (tag-sound 22 refl) short (ia5-of text h)

-- ---- OCTET STRINGs

pub octets-written : (depth : ℕ) (s : List ℕ) → 1 ≤ depth → length s < 2 ^ 32
    → OctetString Der depth (value_octets OCTET_STRING s) s
unfolding OctetString
octets-written zero s some short = absurd (omega arith)
octets-written (suc depth) s some short = inl (value-written 4 s (tag-sound 4 refl) short)

octets-in : (mode : Mode) (depth : ℕ) (s : List ℕ) → 1 ≤ depth → length s < 2 ^ 32
    → OctetString mode depth (value_octets OCTET_STRING s) s
octets-in Der depth s some short = octets-written depth s some short
octets-in Ber depth s some short =
    octets-ber depth (value_octets OCTET_STRING s) s (octets-written depth s some short)

pub octets-unique : (depth : ℕ) (o s : List ℕ) → IsBytes o → OctetString Der depth o s
    → o ≡ value_octets OCTET_STRING s
unfolding OctetString
octets-unique zero o s bytes h = absurd h
octets-unique (suc depth) o s bytes (inl h) = value-unique o 4 s bytes h
octets-unique (suc depth) o s bytes (inr h) = absurd (let no : Der ≡ Ber = h.0 in cc)

pub octets-read : (mode : Mode) (depth : ℕ) (s rest : List ℕ) → 1 ≤ depth → length s < 2 ^ 32
    → octets_at depth mode (value_octets OCTET_STRING s ++ rest) ≡ Some (s, rest)
octets-read mode depth s rest some short =
    (exact-octets depth mode).complete (value_octets OCTET_STRING s) s rest tt
    (octets-in mode depth s some short)

-- ---- skipped values

pub skipped-primitive : (depth tag : ℕ) (c : List ℕ) → IsTag tag → is_constructed tag ≡ false
    → 1 ≤ depth → length c < 2 ^ 32 → Skipped Der depth (value_octets tag c)
unfolding Skipped
skipped-primitive zero tag c is prim some short = absurd (omega arith)
skipped-primitive (suc depth) tag c is prim some short = (
  tag,
  c,
  value-written tag c is short,
  λ cons. absurd (let both : true ≡ false = sym cons ∙ prim
      in cc),
)

pub skipped-constructed : (depth tag : ℕ) (c : List ℕ) → IsTag tag → ListOf (Skipped Der depth) c
    → length c < 2 ^ 32 → Skipped Der (suc depth) (value_octets tag c)
unfolding Skipped
skipped-constructed depth tag c is list short = (tag, c, value-written tag c is short, λ _. list)

skipped-in : (mode : Mode) (depth : ℕ) (o : List ℕ) → Skipped Der depth o → Skipped mode depth o
skipped-in Der depth o h = h
skipped-in Ber depth o h = skipped-ber depth o h

pub skipped-read : (mode : Mode) (depth : ℕ) (o rest : List ℕ) → Skipped Der depth o
    → skip_at depth mode (o ++ rest) ≡ Some (tt, rest)
skipped-read mode depth o rest h =
    (exact-skip depth mode).complete o tt rest tt (skipped-in mode depth o h)

-- ---- captured values

front-taken : (front rest : List ℕ) → taken (front ++ rest) rest ≡ front
front-taken front rest =
    let n : length (front ++ rest) - length rest ≡ length front =
    omega (arith, length-append front rest) in
    rw n (take_at front rest (length front) refl)

pub captured-written : (tag : ℕ) (source o rest : List ℕ) → IsBytes source
    → captured (value_at tag) Der source ≡ Some (o, rest)
    → (c : List ℕ) × (source ≡ o ++ rest) × Value Der o tag c × (o ≡ value_octets tag c)
captured-written tag source o rest bytes e =
    let v = bind_some (value_at tag Der source) _ (o, rest) e in
    let q : (let t : List ℕ × List ℕ = (taken source v.0.1, v.0.1) in
    t) ≡ (o, rest) = some_is _ _ v.2 in
    let f = value-sound tag Der source v.0.0 v.0.1 v.1 in
    let front : f.0 ≡ o = sym (ap (λ (s : List ℕ). taken s v.0.1) f.1 ∙ front-taken f.0 v.0.1)
    ∙ ap (λ (t : List ℕ × List ℕ). t.0) q in
    let after : v.0.1 ≡ rest = ap (λ (t : List ℕ × List ℕ). t.1) q in
    let is : Value Der o tag v.0.0 = subst (λ (s : List ℕ). Value Der s tag v.0.0) front f.2 in
    let whole : source ≡ o ++ rest = f.1 ∙ ap (λ (s : List ℕ). s ++ v.0.1) front
    ∙ ap (λ (s : List ℕ). o ++ s) after in (
      v.0.0,
      whole,
      is,
      value-unique o tag v.0.0
          (IsBytes-left o rest (subst IsBytes whole bytes)) is,
    )
