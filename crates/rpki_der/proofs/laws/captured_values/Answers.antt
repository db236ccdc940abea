use Rattle.std.proofs.Common.{◌≡◌, ◌<◌, ◌^◌, ℕ, List, [], Option, Some, sym, ap, ◌∙◌}
use Rattle.std.specs.Prelude.{All}
use Rattle.std.proofs.lemmas.List.{append-nil}
use Rattle.rpki_der.specs.Tags.{BOOLEAN, INTEGER, BIT_STRING, NULL, OBJECT_IDENTIFIER, IA5_STRING}
use Rattle.rpki_der.specs.declared.mode.Mode.{Mode}
use Rattle.rpki_der.specs.Oid.{IsOid}
use Rattle.rpki_der.specs.Read.Parse.{value_at, skip_at, skip_all_at, all_of, there, primitive}
use Rattle.rpki_der.specs.Read.Parse.{octets_at, octets_of, oid_at, these, bits_at}
use Rattle.rpki_der.specs.Read.Parse.{octets_in_bits_at, ia5_at, boolean_at, u8_at, u32_at, u160_at}
use Rattle.rpki_der.specs.Read.Parse.{this, null_of, captured, taken}
use Rattle.rpki_der.specs.Grammar.{Value, IsBytes, IsInteger, IntegerBelow, Boolean, IsBoolean}
use Rattle.rpki_der.specs.Grammar.{Null, ObjectIdentifier, BitString, IsBitString, OctetsInBits}
use Rattle.rpki_der.specs.Grammar.{OctetStringOf, Ia5String, OctetString, Skipped, ListOf}
use Rattle.rpki_der.proofs.Reading.Lengths.{bind_some, some_is}
use Rattle.rpki_der.proofs.Reading.Skips.{skip-all-sound, skip-all-complete}
use Rattle.rpki_der.proofs.Reading.Kinds.{reading-value, reading-skipped, reading-contents}
use Rattle.rpki_der.proofs.Reading.Kinds.{reading-octets, reading-oid, reading-bits, reading-ia5}
use Rattle.rpki_der.proofs.Reading.Kinds.{reading-boolean, reading-u8, reading-u32, reading-u160}
use Rattle.rpki_der.proofs.Reading.Kinds.{reading-these, reading-whole, reading-octets-of}
use Rattle.rpki_der.proofs.Reading.Kinds.{reading-this, reading-null}
use Rattle.rpki_der.proofs.Reading.Unique.{captured-reading, before, within-one, skipped-one}
use Rattle.rpki_der.proofs.Reading.Unique.{octets-one}
use Rattle.rpki_der.proofs.laws.captured_values.Goals as goal

pub returns-clause-tagged : goal.returns-clause-tagged
returns-clause-tagged c =
    λ tag. captured-reading (value_at tag) (λ mode o c. Value mode o tag c) (reading-value tag)
    (λ mode o c v. (tag, c, v))

pub returns-clause-skipped : goal.returns-clause-skipped
returns-clause-skipped c =
    λ depth. captured-reading (skip_at depth) (λ mode o _. Skipped mode depth o)
    (reading-skipped depth) (skipped-one depth)

pub returns-clause-contents : goal.returns-clause-contents
returns-clause-contents c =
    λ tag. captured-reading (primitive tag Some) (λ mode o c. Value mode o tag c)
    (reading-contents tag) (λ mode o c v. (tag, c, v))

pub returns-clause-string : goal.returns-clause-string
returns-clause-string c =
    λ depth. captured-reading (octets_at depth) (λ mode o s. OctetString mode depth o s)
    (reading-octets depth) (octets-one depth)

pub returns-clause-oid : goal.returns-clause-oid
returns-clause-oid c =
    captured-reading oid_at ObjectIdentifier reading-oid
    (within-one OBJECT_IDENTIFIER (λ mode c oid. (c ≡ oid) × IsOid oid))

pub returns-clause-bits : goal.returns-clause-bits
returns-clause-bits c =
    captured-reading bits_at BitString reading-bits (within-one BIT_STRING (λ mode. IsBitString))

pub returns-clause-ia5 : goal.returns-clause-ia5
returns-clause-ia5 c =
    captured-reading ia5_at Ia5String reading-ia5
    (within-one IA5_STRING (λ mode c text. (c ≡ text) × All (λ b. b < 128) text))

pub returns-clause-boolean : goal.returns-clause-boolean
returns-clause-boolean c =
    captured-reading boolean_at Boolean reading-boolean (within-one BOOLEAN IsBoolean)

pub returns-clause-integer_u8 : goal.returns-clause-integer_u8
returns-clause-integer_u8 c =
    captured-reading u8_at (IntegerBelow 256) reading-u8
    (within-one INTEGER (λ mode c n. IsInteger c n × (n < 256)))

pub returns-clause-integer_u32 : goal.returns-clause-integer_u32
returns-clause-integer_u32 c =
    captured-reading u32_at (IntegerBelow (2 ^ 32)) reading-u32
    (within-one INTEGER (λ mode c n. IsInteger c n × (n < 2 ^ 32)))

pub returns-clause-integer_given : goal.returns-clause-integer_given
returns-clause-integer_given c = λ n lt.
    captured-reading (primitive INTEGER (this n)) (λ mode o _. IntegerBelow 256 mode o n)
    (reading-this n lt) (within-one INTEGER
    (λ mode c (_ : Unit {0}). IsInteger c n × (n < 256)))

pub returns-clause-integer_u160 : goal.returns-clause-integer_u160
returns-clause-integer_u160 c =
    captured-reading u160_at (IntegerBelow (2 ^ 160)) reading-u160
    (within-one INTEGER (λ mode c n. IsInteger c n × (n < 2 ^ 160)))

pub returns-clause-oid_given : goal.returns-clause-oid_given
returns-clause-oid_given c = λ oid is.
    captured-reading (primitive OBJECT_IDENTIFIER (these oid))
    (λ mode o _. ObjectIdentifier mode o oid) (reading-these oid is)
    (within-one OBJECT_IDENTIFIER (λ mode c (_ : Unit {0}). (c ≡ oid) × IsOid oid))

pub returns-clause-whole_bits : goal.returns-clause-whole_bits
returns-clause-whole_bits c =
    captured-reading octets_in_bits_at OctetsInBits reading-whole
    (within-one BIT_STRING (λ mode c string. IsBitString c (string, 0)))

pub returns-clause-string_of : goal.returns-clause-string_of
returns-clause-string_of c = λ n.
    captured-reading (octets_of n) (OctetStringOf n) (reading-octets-of n)
    (λ mode o s h. octets-one 32 mode o s h.0)

pub returns-clause-null : goal.returns-clause-null
returns-clause-null c =
    captured-reading (primitive NULL null_of) (λ mode o _. Null mode o) reading-null
    (within-one NULL (λ mode c (_ : Unit {0}). c ≡ []))

-- all that is left is captured
captured-all : (mode : Mode) (b : List ℕ) → ListOf (Skipped mode 32) b
    → captured skip_all_at mode b ≡ Some (b, [])
captured-all mode b l =
    let whole : taken b [] ≡ b = ap (λ (t : List ℕ). taken t []) (sym (append-nil b))
    ∙ before b [] in
    rw (skip-all-complete mode b l)
    (ap (λ (t : List ℕ). (let o : Option (List ℕ × List ℕ) = Some (t, []) in o)) whole)

all-captured : (mode : Mode) (b kept rest : List ℕ) → IsBytes b
    → captured skip_all_at mode b ≡ Some (kept, rest)
    → (kept ≡ b) × (rest ≡ []) × ListOf (Skipped mode 32) b
all-captured mode b kept rest bytes e =
    let v = bind_some (skip_all_at mode b) _ (kept, rest) e in
    let w = bind_some (there (all_of (skip_at 32) mode b)) _ v.0 v.1 in
    let q : (let t : Unit {0} × List ℕ = (w.0, []) in t) ≡ v.0 = some_is _ _ w.2 in
    let found : skip_all_at mode b ≡ Some (tt, []) = v.1
    ∙ ap (λ (t : Unit {0} × List ℕ). (let o : Option (Unit {0} × List ℕ) = Some t in o))
    (sym q) in
    let l = skip-all-sound mode b bytes found in
    let same : (let t : List ℕ × List ℕ = (b, []) in
    t) ≡ (kept, rest) = some_is _ _ (sym (captured-all mode b l) ∙ e) in
    (sym (ap (λ (t : List ℕ × List ℕ). t.0) same), sym (ap (λ (t : List ℕ × List ℕ). t.1) same), l)

pub returns-clause-all : goal.returns-clause-all
returns-clause-all c = λ mode octets kept rest bytes. (
  all-captured mode octets kept rest bytes,
  λ h. captured-all mode octets h.2
      ∙ ap (λ (t : List ℕ × List ℕ). (let o : Option (List ℕ × List ℕ) = Some t in o))
      (ap (λ (k : List ℕ). (k, [])) (sym h.0) ∙ ap (λ (r : List ℕ). (kept, r)) (sym h.1)),
)
