-- Signed attributes are read exactly, in any order.
use Rattle.std.proofs.Common.{◌≡◌, ℕ, ◌≤◌, Bool, true, false, cond, List, [], ◌∷◌, ◌++◌, length}
use Rattle.std.proofs.Common.{Option, Some, None, inl, inr, refl, sym, subst, ◌∙◌}
use Rattle.std.specs.Prelude.{All, nat_le}
use Rattle.std.proofs.lemmas.Bool.{leb-true, le-leb}
use Rattle.std.proofs.lemmas.List.Elements.{All-nil, All-cons}
use Rattle.rpki_der.specs.declared.mode.Mode.{Mode}
use Rattle.rpki_der.specs.declared.mode.Mode.TheVariants.{Der, Ber}
use Rattle.rpki_der.specs.Form.Keyed.{IsSaid}
use Rattle.rpki_der.specs.Form.Law.{TagSet, nothing, is, IsPart}
use Rattle.rpki_der.specs.Form.Made.{all_read}
use Rattle.rpki_der.specs.Grammar.{IsBytes, Value, Items}
use Rattle.rpki_der.specs.Numbers.{MAX_DEPTH}
use Rattle.rpki_der.specs.Read.Exact.{IsReading}
use Rattle.rpki_der.specs.Read.Parse.{Parser, oid_at, octets_at}
use Rattle.rpki_der.specs.Tags.{SEQUENCE, SET, context}
use Rattle.rpki_der.proofs.Form.Keyed.{once-sound, once-complete}
use Rattle.rpki_der.proofs.Form.Kinds.{oid-part, octets-part}
use Rattle.rpki_der.proofs.Form.Nested.{contents-bytes, all-sound, all-complete}
use Rattle.rpki_der.proofs.Form.Words.{IsUnderstood, understand, keep, items, in-tag, part-as}
use Rattle.rpki_der.proofs.Reading.Exact.{IsBytes-left, IsBytes-right}
use Rattle.rpki_der.proofs.Reading.Lengths.{bind_some, some_is}
use Rattle.rpki_der.proofs.Reading.Unique.{reading}
use Rattle.rpki_basics.specs.Time.Read.{time_at}
use Rattle.rpki_basics.proofs.Times.Read.{time-part}
use Rattle.rpki_attributes.specs.declared.attribute.OtherTypes.{OtherTypes}
use Rattle.rpki_attributes.specs.Attribute.{Attribute, type_of, HasValues, AttributeForm}
use Rattle.rpki_attributes.specs.Attribute.{id_content_type, id_message_digest, id_signing_time}
use Rattle.rpki_attributes.specs.Attrs.{SignedAttributes, most_octets, HasOne, AreAttributes}
use Rattle.rpki_attributes.specs.Attrs.{SignedAttrsForm}
use Rattle.rpki_attributes.specs.Attrs.Read.{said_by, fields_of, says_of, attrs_at}
use Rattle.rpki_attributes.proofs.Attributes.Exact.{attribute-part}

-- ---- the octets of values

abbrev HasBytes : Attribute → Type 0
HasBytes a = IsBytes a.values

kept-bytes : (others : OtherTypes) (mode : Mode) (oid o v : List ℕ)
    → HasValues others mode oid o v → IsBytes o → IsBytes v
kept-bytes others mode oid o v (inl h) bytes = contents-bytes mode o SET v h.1 bytes
kept-bytes others mode oid o v (inr h) bytes = subst IsBytes (sym h.3) tt

value-bytes : (others : OtherTypes) (mode : Mode) (o : List ℕ) (a : Attribute)
    → AttributeForm others mode o a → IsBytes o → HasBytes a
value-bytes others mode o a h bytes =
    let fields : IsBytes h.0 = contents-bytes mode o SEQUENCE h.0 h.1 bytes in
    let oid = h.2 in
    let values = oid.4 in
    let after : IsBytes oid.1 = IsBytes-right oid.0 oid.1 (subst IsBytes oid.2 fields) in
    let here : IsBytes values.0 =
    IsBytes-left values.0 values.1 (subst IsBytes values.2 after) in
    kept-bytes others mode a.oid values.0 a.values values.3 here

values-bytes : (others : OtherTypes) (mode : Mode) (o : List ℕ) (list : List Attribute) → IsBytes o
    → Items (AttributeForm others mode) o list → All HasBytes list
values-bytes others mode o [] bytes h = All-nil HasBytes
values-bytes others mode o (a ∷ list) bytes h =
    let all : IsBytes (h.0 ++ h.1) = subst IsBytes h.2 bytes in
    All-cons HasBytes a list
    (value-bytes others mode h.0 a h.3 (IsBytes-left h.0 h.1 all))
    (values-bytes others mode h.1 list (IsBytes-right h.0 h.1 all) h.4)

-- ---- what the only attribute of a type says

module _ {X : Type 0} {first : TagSet} {p : Parser X} {G : Mode → List ℕ → X → Type 0}
    (e : IsPart first nothing p G) (mode : Mode) where
  value-said : IsSaid (λ (a : Attribute). all_read p mode a.values) HasBytes
      (λ a x. G mode a.values x)
  value-said = record {
    sound = λ a x bytes h. all-sound e mode a.values x bytes h;
    complete = λ a x h. all-complete e mode a.values x h;
  }

  one-sound : (oid : List ℕ) (list : List Attribute) → All HasBytes list → (x : X)
      → said_by oid p mode list ≡ Some x → HasOne list oid (G mode) x
  one-sound oid list bytes x h = once-sound type_of value-said oid list bytes x h

  one-complete : (oid : List ℕ) (list : List Attribute) (x : X) → HasOne list oid (G mode) x
      → said_by oid p mode list ≡ Some x
  one-complete oid list x h = once-complete type_of value-said oid list x h

one-ber : {X : Type 0} {first : TagSet} {p : Parser X} {G : Mode → List ℕ → X → Type 0}
    → IsPart first nothing p G → (oid : List ℕ) (list : List Attribute) (x : X)
    → HasOne list oid (G Der) x
    → HasOne list oid (G Ber) x
one-ber e oid list x h =
    (h.0, h.1, h.2, h.3, h.4, h.5, h.6, e.relaxed h.1.values x h.7)

-- ---- the three

fields-sound : (octets : List ℕ) (mode : Mode) (list : List Attribute) → All HasBytes list
    → (x : SignedAttributes) → fields_of octets mode list ≡ Some x
    → (octets ≡ x.contents) × AreAttributes mode list x
unfolding fields_of
fields-sound octets mode list bytes x h =
    let type = bind_some (said_by id_content_type oid_at mode list) _ x h in
    let digest = bind_some (said_by id_message_digest (octets_at MAX_DEPTH) mode list) _ x type.2 in
    let time = bind_some (said_by id_signing_time time_at mode list) _ x digest.2 in
    let is : (let q : SignedAttributes = record {
      contents = octets;
      content_type = type.0;
      message_digest = digest.0;
      signing_time = time.0;
    } in q) ≡ x = some_is _ _ time.2 in
    subst (λ (q : SignedAttributes). (octets ≡ q.contents) × AreAttributes mode list q) is (
      refl,
      record {
        content_type = one-sound oid-part mode id_content_type list bytes type.0 type.1;
        message_digest = one-sound (octets-part MAX_DEPTH) mode id_message_digest list bytes
            digest.0 digest.1;
        signing_time = one-sound time-part mode id_signing_time list bytes time.0 time.1;
      },
    )

fields-complete : (mode : Mode) (list : List Attribute) (x : SignedAttributes)
    → AreAttributes mode list x → fields_of x.contents mode list ≡ Some x
unfolding fields_of
fields-complete mode list x h =
    let type : said_by id_content_type oid_at mode list ≡ Some x.content_type =
    one-complete oid-part mode id_content_type list x.content_type h.content_type in
    let digest : said_by id_message_digest (octets_at MAX_DEPTH) mode list ≡ Some x.message_digest =
    one-complete (octets-part MAX_DEPTH) mode id_message_digest list x.message_digest
    h.message_digest in
    let time : said_by id_signing_time time_at mode list ≡ Some x.signing_time =
    one-complete time-part mode id_signing_time list x.signing_time h.signing_time in
    rw type (rw digest (rw time refl))

are-ber : (list : List Attribute) (x : SignedAttributes) → AreAttributes Der list x
    → AreAttributes Ber list x
are-ber list x h = record {
  content_type = one-ber oid-part id_content_type list x.content_type h.content_type;
  message_digest = one-ber (octets-part MAX_DEPTH) id_message_digest list x.message_digest
      h.message_digest;
  signing_time = one-ber time-part id_signing_time list x.signing_time h.signing_time;
}

-- ---- the contents

-- attributes of these octets say x
abbrev Says : Mode → List Attribute × List ℕ → SignedAttributes → Type 0
Says mode read x =
    (length read.1 ≤ most_octets) × (read.1 ≡ x.contents) × AreAttributes mode read.0 x

short-enough : (n : ℕ) (f : Option SignedAttributes) (x : SignedAttributes)
    → cond (nat_le n most_octets) f None ≡ Some x → (n ≤ most_octets) × (f ≡ Some x)
short-enough n f x h = of (nat_le n most_octets) refl h
  where
    of : (t : Bool) → nat_le n most_octets ≡ t → cond t f None ≡ Some x
        → (n ≤ most_octets) × (f ≡ Some x)
    of true e h = (leb-true n most_octets e, h)
    of false e h = absurd cc

says-understood : IsUnderstood says_of (λ read. All HasBytes read.0) Says
unfolding says_of
says-understood = record {
  sound = λ mode read x bytes h.
      let s = short-enough (length read.1) (fields_of read.1 mode read.0) x h in
      let f = fields-sound read.1 mode read.0 bytes x s.1 in
      (s.0, f.0, f.1);
  complete = λ mode read x h.
      let short : nat_le (length read.1) most_octets ≡ true = le-leb _ _ h.0 in
      let found : fields_of read.1 mode read.0 ≡ Some x =
      subst (λ (t : List ℕ). fields_of t mode read.0 ≡ Some x) (sym h.1)
      (fields-complete mode read.0 x h.2) in
      rw short found;
  relaxed = λ read x h. (h.0, h.1, are-ber read.0 x h.2);
}

-- signed attributes are a part of a form
pub attrs-part : (others : OtherTypes)
    → IsPart (is (context 0)) nothing (attrs_at others) (SignedAttrsForm others)
attrs-part others =
    part-as
    (in-tag (context 0) (understand (keep (items SEQUENCE (attribute-part others)))
    (λ mode o read bytes g. values-bytes others mode o read.0 bytes g.0) says-understood))
    (λ mode o x h.
    let same : h.0 ≡ x.contents = sym h.2.1.1 ∙ h.2.2.1 in
    let short : length h.0 ≤ most_octets =
    subst (λ (t : List ℕ). length t ≤ most_octets) h.2.1.1 h.2.2.0 in
    subst (λ (t : List ℕ). Value mode o (context 0) t × (length t ≤ most_octets)
    × ((list : List Attribute) × Items (AttributeForm others mode) t list
    × AreAttributes mode list x)) same (h.1, short, (h.2.0.0, h.2.1.0, h.2.2.2)))
    (λ mode o x h. (x.contents, h.0, ((h.2.0, x.contents), (h.2.1, refl), (h.1, refl, h.2.2))))

pub attrs-reading : (others : OtherTypes) → IsReading (attrs_at others) (SignedAttrsForm others)
attrs-reading others =
    let e = attrs-part others in
    reading (attrs_at others) (SignedAttrsForm others)
    (λ mode. record {
      sound = (e.exact mode).sound;
      complete = λ o x r er h. (e.exact mode).complete o x r tt h;
    })
    e.relaxed (λ mode o x h. (context 0, x.contents, h.0))
