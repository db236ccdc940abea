-- The kinds of values as parts.
use Rattle.std.proofs.Common.{◌≡◌, ◌<◌, ◌^◌, ℕ, suc, zero, List, [], ◌∷◌, ◌++◌, Some, inl, inr}
use Rattle.std.proofs.Common.{refl, sym, ap, subst}
use Rattle.std.specs.Prelude.{◌⊎◌}
use Rattle.std.proofs.lemmas.List.{append-nil}
use Rattle.rpki_der.specs.declared.mode.Mode.TheVariants.{Der, Ber}
use Rattle.rpki_der.specs.Numbers.{MAX_DEPTH}
use Rattle.rpki_der.specs.Read.Parse.{all_of, there, skip_all_at}
use Rattle.rpki_der.specs.Grammar.{ListOf}
use Rattle.rpki_der.proofs.Reading.Lengths.{bind_some, some_is}
use Rattle.rpki_der.proofs.Reading.Skips.{skip-all-sound, skip-all-complete}
use Rattle.rpki_der.proofs.Reading.Unique.{items-as, skipped-ber}
use Rattle.rpki_der.specs.declared.mode.Mode.{Mode}
use Rattle.rpki_der.specs.Read.Parse.{primitive, u8_at, u32_at, this, boolean_at, null_of, oid_at}
use Rattle.rpki_der.specs.Read.Parse.{bits_at, ia5_at, octets_at, skip_at}
use Rattle.rpki_der.specs.Grammar.{Value, Integer, IntegerBelow, Boolean, Null, ObjectIdentifier}
use Rattle.rpki_der.specs.Grammar.{BitString, Ia5String, OctetString, Skipped}
use Rattle.rpki_der.proofs.Reading.Kinds.{reading-u8, reading-u32, reading-this, reading-boolean}
use Rattle.rpki_der.proofs.Reading.Kinds.{reading-null, reading-oid, reading-bits, reading-ia5}
use Rattle.rpki_der.proofs.Reading.Kinds.{reading-octets, reading-contents, reading-skipped}
use Rattle.rpki_der.specs.Tags.{BOOLEAN, INTEGER, BIT_STRING, OCTET_STRING}
use Rattle.rpki_der.specs.Tags.{OCTET_STRING_IN_PIECES, NULL, OBJECT_IDENTIFIER, IA5_STRING}
use Rattle.rpki_der.specs.Form.Law.{every, nothing, is, or, StartsIn, IsPart}
use Rattle.rpki_der.proofs.Form.Apart.{in-left, in-right}
use Rattle.rpki_der.proofs.Form.Fields.{starts-value}
use Rattle.rpki_der.proofs.Form.Words.{part, tagged, part-as}
use Rattle.std.proofs.Common.{false}
use Rattle.rpki_der.specs.Oid.{IsOid}
use Rattle.rpki_der.specs.Read.Parse.{u160_at, these, octets_in_bits_at, octets_of}
use Rattle.rpki_der.specs.Grammar.{OctetsInBits, OctetStringOf}
use Rattle.rpki_der.specs.Form.Made.{Default, default_at}
use Rattle.rpki_der.proofs.Reading.Kinds.{reading-u160, reading-these, reading-whole}
use Rattle.rpki_der.proofs.Reading.Kinds.{reading-octets-of}
use Rattle.rpki_der.proofs.Form.Words.{default}

pub u8-part : IsPart (is INTEGER) nothing u8_at (IntegerBelow 256)
u8-part = tagged INTEGER reading-u8

pub u32-part : IsPart (is INTEGER) nothing u32_at (IntegerBelow (2 ^ 32))
u32-part = tagged INTEGER reading-u32

-- an INTEGER that is this number
pub this-part : (n : ℕ) → n < 256
    → IsPart (is INTEGER) nothing (primitive INTEGER (this n)) (λ mode o _. Integer mode o n)
this-part n small = part-as (tagged INTEGER (reading-this n small))
    (λ mode o _ h. (h.0, h.1, h.2.0)) (λ mode o _ h. (h.0, h.1, (h.2, small)))

pub boolean-part : IsPart (is BOOLEAN) nothing boolean_at Boolean
boolean-part = tagged BOOLEAN reading-boolean

pub null-part : IsPart (is NULL) nothing (primitive NULL null_of) (λ mode o _. Null mode o)
null-part = tagged NULL reading-null

pub oid-part : IsPart (is OBJECT_IDENTIFIER) nothing oid_at ObjectIdentifier
oid-part = tagged OBJECT_IDENTIFIER reading-oid

pub bits-part : IsPart (is BIT_STRING) nothing bits_at BitString
bits-part = tagged BIT_STRING reading-bits

pub ia5-part : IsPart (is IA5_STRING) nothing ia5_at Ia5String
ia5-part = tagged IA5_STRING reading-ia5

-- the contents of a value with this tag
pub contents-part : (tag : ℕ)
    → IsPart (is tag) nothing (primitive tag Some) (λ mode o c. Value mode o tag c)
contents-part tag = part (is tag) (reading-contents tag) (λ mode o c v. starts-value mode tag o c v)

octets-start : (depth : ℕ) (mode : Mode) (o s : List ℕ) → OctetString mode depth o s
    → StartsIn (or (is OCTET_STRING) (is OCTET_STRING_IN_PIECES)) o
unfolding OctetString
octets-start zero mode o s h = absurd h
octets-start (suc depth) mode o s (inl v) = let t = starts-value mode OCTET_STRING o s v in
    (t.0, t.1, t.2, in-left (is OCTET_STRING) (is OCTET_STRING_IN_PIECES) t.0 t.3)
octets-start (suc depth) mode o s (inr h) = let t =
    starts-value mode OCTET_STRING_IN_PIECES o h.1 h.3 in
    (t.0, t.1, t.2, in-right (is OCTET_STRING) (is OCTET_STRING_IN_PIECES) t.0 t.3)

pub octets-part : (depth : ℕ)
    → IsPart (or (is OCTET_STRING) (is OCTET_STRING_IN_PIECES)) nothing (octets_at depth)
    (λ mode o s. OctetString mode depth o s)
octets-part depth = part (or (is OCTET_STRING) (is OCTET_STRING_IN_PIECES)) (reading-octets depth)
    (octets-start depth)

skipped-start : (depth : ℕ) (mode : Mode) (o : List ℕ) → Skipped mode depth o → StartsIn every o
unfolding Skipped
skipped-start zero mode o h = absurd h
skipped-start (suc depth) mode o h = let t = starts-value mode h.0 o h.1 h.2 in
    (t.0, t.1, t.2, refl)

-- any value that nests at most as deep as the limit
pub any-part : (depth : ℕ) → IsPart every nothing (skip_at depth) (λ mode o _. Skipped mode depth o)
any-part depth = part every (reading-skipped depth) (λ mode o _ h. skipped-start depth mode o h)

pub u160-part : IsPart (is INTEGER) nothing u160_at (IntegerBelow (2 ^ 160))
u160-part = tagged INTEGER reading-u160

-- an OBJECT IDENTIFIER with these contents
pub these-part : (oid : List ℕ) → IsOid oid
    → IsPart (is OBJECT_IDENTIFIER) nothing (primitive OBJECT_IDENTIFIER (these oid))
    (λ mode o _. ObjectIdentifier mode o oid)
these-part oid valid = tagged OBJECT_IDENTIFIER (reading-these oid valid)

-- a BIT STRING all of whose bits are used
pub whole-part : IsPart (is BIT_STRING) nothing octets_in_bits_at OctetsInBits
whole-part = tagged BIT_STRING reading-whole

-- an OCTET STRING of this length
pub octets-of-part : (n : ℕ)
    → IsPart (or (is OCTET_STRING) (is OCTET_STRING_IN_PIECES)) nothing (octets_of n)
    (OctetStringOf n)
octets-of-part n = part (or (is OCTET_STRING) (is OCTET_STRING_IN_PIECES)) (reading-octets-of n)
    (λ mode o s h. octets-start MAX_DEPTH mode o s h.0)

-- a BOOLEAN that is false where it is left out
pub flag-part : IsPart (is BOOLEAN) (is BOOLEAN) (default_at false BOOLEAN boolean_at)
    (λ mode. Default false (Boolean mode))
flag-part = default BOOLEAN boolean-part false

-- skipped values up to the end
pub rest-part : IsPart every every skip_all_at (λ mode o _. ListOf (Skipped mode MAX_DEPTH) o)
rest-part = record {
  exact = λ mode. record {
    sound = λ b u r bytes h.
        let s = bind_some (there (all_of (skip_at MAX_DEPTH) mode b)) _ (u, r) h in
        let q : (let t : Unit {0} × List ℕ = (s.0, []) in t) ≡ (u, r) = some_is _ _ s.2 in
        let end : [] ≡ r = ap (λ (t : Unit {0} × List ℕ). t.1) q in (
          b,
          subst (λ (t : List ℕ). b ≡ b ++ t) end (sym (append-nil b)),
          skip-all-sound mode b bytes
              (subst (λ (t : List ℕ). skip_all_at mode b ≡ Some (tt, t)) (sym end) h),
        );
    complete = λ o u r er h.
        subst (λ (t : List ℕ). skip_all_at mode (o ++ t) ≡ Some (u, t)) (sym er)
        (subst (λ (t : List ℕ). skip_all_at mode t ≡ Some (u, [])) (sym (append-nil o))
        (skip-all-complete mode o h));
  };
  starts = λ mode o u h. any-start o;
  relaxed = λ o u l. (
    l.0,
    items-as (λ o _. Skipped Der MAX_DEPTH o) (λ o _. Skipped Ber MAX_DEPTH o)
        (λ o _ k. skipped-ber MAX_DEPTH o k) o l.0 l.1,
  );
}
  where
    any-start : (o : List ℕ) → (o ≡ []) ⊎ StartsIn every o
    any-start [] = inl refl
    any-start (t ∷ o) = inr (t, o, refl, refl)
