-- The reading of each kind of value.
use Rattle.std.proofs.Common.{◌≡◌, ℕ, ◌<◌, ◌^◌, List, [], length, true, Some, arith, eq-eqb}
use Rattle.std.specs.Prelude.{All, ◌==◌}
use Rattle.std.proofs.lemmas.Bool.{eqb-true}
use Rattle.rpki_der.specs.Tags.{BOOLEAN, INTEGER, BIT_STRING, NULL, OBJECT_IDENTIFIER, IA5_STRING}
use Rattle.rpki_der.specs.declared.mode.Mode.TheVariants.{Der, Ber}
use Rattle.rpki_der.specs.Oid.{IsOid}
use Rattle.rpki_der.specs.Numbers.{MAX_DEPTH}
use Rattle.rpki_der.specs.Read.Parse.{value_at, skip_at, primitive, unsigned_of, this, these, u8_at}
use Rattle.rpki_der.specs.Read.Parse.{u32_at, u160_at, boolean_at, boolean_of, null_of, ia5_at}
use Rattle.rpki_der.specs.Read.Parse.{ia5_of, oid_at, oid_of, bits_at, bits_of, whole_octets_of}
use Rattle.rpki_der.specs.Read.Parse.{octets_in_bits_at, octets_at, octets_of}
use Rattle.rpki_der.specs.Grammar.{Value, IsInteger, IntegerBelow, Boolean, IsBoolean, Null}
use Rattle.rpki_der.specs.Grammar.{Ia5String, ObjectIdentifier, BitString, IsBitString}
use Rattle.rpki_der.specs.Grammar.{OctetsInBits, OctetString, OctetStringOf, Skipped}
use Rattle.rpki_der.specs.Read.Exact.{IsReading, anything}
use Rattle.rpki_der.proofs.Reading.Exact.{exact-value, exact-primitive, exact-contents, exact-as}
use Rattle.rpki_der.proofs.Reading.Integers.{exact-unsigned, exact-this, holds1, holds4}
use Rattle.rpki_der.proofs.Reading.Digits.{holds20}
use Rattle.rpki_der.proofs.Reading.Tested.{exact-tested}
use Rattle.rpki_der.proofs.Reading.Contents.{exact-boolean, boolean-ber, exact-null, exact-ia5}
use Rattle.rpki_der.proofs.Reading.Contents.{exact-oid, exact-these, exact-bits, exact-whole}
use Rattle.rpki_der.proofs.Reading.Skips.{exact-skip}
use Rattle.rpki_der.proofs.Reading.Strings.{exact-octets}
use Rattle.rpki_der.proofs.Reading.Unique.{reading, reading-primitive, within-ber, value-ber}
use Rattle.rpki_der.proofs.Reading.Unique.{skipped-ber, octets-ber, within-one, skipped-one}
use Rattle.rpki_der.proofs.Reading.Unique.{octets-one}

pub reading-value : (tag : ℕ) → IsReading (value_at tag) (λ mode o c. Value mode o tag c)
reading-value tag = reading (value_at tag) (λ mode o c. Value mode o tag c) (exact-value tag)
    (λ o. value-ber o tag) (λ mode o c v. (tag, c, v))

pub reading-skipped : (depth : ℕ) → IsReading (skip_at depth) (λ mode o _. Skipped mode depth o)
reading-skipped depth =
    reading (skip_at depth) (λ mode o _. Skipped mode depth o) (exact-skip depth)
    (λ o _. skipped-ber depth o) (skipped-one depth)

pub reading-u8 : IsReading u8_at (IntegerBelow 256)
reading-u8 = reading-primitive INTEGER (unsigned_of 1) (λ c n. IsInteger c n × (n < 256))
    (exact-unsigned 1 256 holds1 (omega arith))

pub reading-u32 : IsReading u32_at (IntegerBelow (2 ^ 32))
reading-u32 = reading-primitive INTEGER (unsigned_of 4) (λ c n. IsInteger c n × (n < 2 ^ 32))
    (exact-unsigned 4 (2 ^ 32) holds4 (omega arith))

pub reading-this : (n : ℕ) → n < 256
    → IsReading (primitive INTEGER (this n)) (λ mode o _. IntegerBelow 256 mode o n)
reading-this n lt =
    let e = exact-this n lt in
    reading-primitive INTEGER (this n) (λ c _. IsInteger c n × (n < 256))
    (record {
      sound = λ c x bytes h. (e.sound c x bytes h, lt);
      complete =
          λ c x h. e.complete c x h.0;
    })

pub reading-boolean : IsReading boolean_at Boolean
reading-boolean =
    reading boolean_at Boolean
    (λ mode. exact-primitive BOOLEAN (boolean_of mode) mode (IsBoolean mode)
    (exact-boolean mode))
    (λ o b. within-ber BOOLEAN (λ c. IsBoolean Der c b) (λ c. IsBoolean Ber c b)
    (λ c. boolean-ber c b) o) (within-one BOOLEAN IsBoolean)

pub reading-null : IsReading (primitive NULL null_of) (λ mode o _. Null mode o)
reading-null = reading-primitive NULL null_of (λ c _. c ≡ []) exact-null

pub reading-ia5 : IsReading ia5_at Ia5String
reading-ia5 = reading-primitive IA5_STRING ia5_of
    (λ c text. (c ≡ text) × All (λ b. b < 128) text) exact-ia5

pub reading-oid : IsReading oid_at ObjectIdentifier
reading-oid = reading-primitive OBJECT_IDENTIFIER oid_of (λ c oid. (c ≡ oid) × IsOid oid) exact-oid

pub reading-bits : IsReading bits_at BitString
reading-bits = reading-primitive BIT_STRING bits_of IsBitString exact-bits

pub reading-octets : (depth : ℕ)
    → IsReading (octets_at depth) (λ mode o s. OctetString mode depth o s)
reading-octets depth =
    reading (octets_at depth) (λ mode o s. OctetString mode depth o s) (exact-octets depth)
    (octets-ber depth) (octets-one depth)

pub reading-contents : (tag : ℕ) → IsReading (primitive tag Some) (λ mode o c. Value mode o tag c)
reading-contents tag =
    reading (primitive tag Some) (λ mode o c. Value mode o tag c) (exact-contents tag)
    (λ o. value-ber o tag) (λ mode o c v. (tag, c, v))

pub reading-u160 : IsReading u160_at (IntegerBelow (2 ^ 160))
reading-u160 =
    reading-primitive INTEGER (unsigned_of 20) (λ c n. IsInteger c n × (n < 2 ^ 160))
    (exact-unsigned 20 (2 ^ 160) holds20 (omega arith))

pub reading-these : (oid : List ℕ) → IsOid oid
    → IsReading (primitive OBJECT_IDENTIFIER (these oid)) (λ mode o _. ObjectIdentifier mode o oid)
reading-these oid is =
    reading-primitive OBJECT_IDENTIFIER (these oid) (λ c _. (c ≡ oid) × IsOid oid)
    (exact-these oid is)

pub reading-whole : IsReading octets_in_bits_at OctetsInBits
reading-whole = reading-primitive BIT_STRING whole_octets_of
    (λ c string. IsBitString c (string, 0)) exact-whole

pub reading-octets-of : (n : ℕ) → IsReading (octets_of n) (OctetStringOf n)
reading-octets-of n =
    reading (octets_of n) (OctetStringOf n)
    (λ mode. exact-as anything (octets_of n mode)
    (λ o s. OctetString mode MAX_DEPTH o s × ((length s == n) ≡ true))
    (OctetStringOf n mode)
    (exact-tested anything (λ s. length s == n) (octets_at MAX_DEPTH) mode
    (OctetString mode MAX_DEPTH) (exact-octets MAX_DEPTH mode))
    (λ o s h. (h.0, eqb-true _ _ h.1)) (λ o s h. (h.0, eq-eqb _ _ h.1)))
    (λ o s h. (octets-ber MAX_DEPTH o s h.0, h.1)) (λ mode o s h. octets-one MAX_DEPTH mode o s h.0)
