-- What is made and written of signed attributes is in their form.
use Rattle.std.proofs.Common.{◌≡◌, ◌≢◌, ℕ, ◌+◌, ◌≤◌, ◌<◌, ◌^◌, Bool, true, false, List, []}
use Rattle.std.proofs.Common.{◌∷◌, ◌++◌, length, Some, Ok, inl, inr, refl, sym, ap, subst, ◌∙◌}
use Rattle.std.proofs.Common.{map, arith}
use Rattle.std.specs.Prelude.{All, unwrap_or, if◌then◌else◌}
use Rattle.std.specs.List.{concat, sum_by}
use Rattle.std.specs.List.Sorted.{IsPermutation}
use Rattle.std.specs.Str.{bytes_eq}
use Rattle.std.proofs.lemmas.List.{append-nil, length-append}
use Rattle.std.proofs.lemmas.List.Elements.{All-nil, All-cons, All-head, All-tail}
use Rattle.std.proofs.lemmas.List.Sums.{sum_by-cons}
use Rattle.std.proofs.lemmas.List.Sorted.{All-permutation, IsPermutation-map, sum_by-IsPermutation}
use Rattle.std.proofs.lemmas.Slice.Eq.{bytes_eq-Decides}
use Rattle.rpki_der.specs.declared.mode.Mode.{Mode}
use Rattle.rpki_der.specs.declared.mode.Mode.TheVariants.{Der, Ber}
use Rattle.rpki_der.specs.Form.Keyed.{Once}
use Rattle.rpki_der.specs.Form.Made.{all_read}
use Rattle.rpki_der.specs.Grammar.{IsBytes, Value, Items, ObjectIdentifier, OctetString}
use Rattle.rpki_der.specs.Oid.{IsOid}
use Rattle.rpki_der.specs.Read.Reads.{Reads}
use Rattle.rpki_der.specs.Read.State.{State}
use Rattle.rpki_der.specs.Tags.{OBJECT_IDENTIFIER, OCTET_STRING, SEQUENCE, SET, context}
use Rattle.rpki_der.specs.Write.Parts.{contents_small, length_parts}
use Rattle.rpki_der.specs.Write.Written.{value_octets}
use Rattle.rpki_der.proofs.Reading.Calls.{reads-ok}
use Rattle.rpki_der.proofs.Reading.Scan.{tag-sound}
use Rattle.rpki_der.proofs.Reading.Unique.{items-as}
use Rattle.rpki_der.proofs.Writing.Lengths.{value-written, value-unique}
use Rattle.rpki_basics.specs.Moment.{Moment}
use Rattle.rpki_basics.specs.Time.Form.{TimeForm, time_octets}
use Rattle.rpki_attributes.specs.declared.attribute.OtherTypes.{OtherTypes}
use Rattle.rpki_attributes.specs.declared.attribute.OtherTypes.TheVariants.{Refuse, Skip}
use Rattle.rpki_attributes.specs.Attribute.{Attribute, type_of, IsKnown, HasValues, AttributeForm}
use Rattle.rpki_attributes.specs.Attribute.{id_content_type, id_message_digest, id_signing_time}
use Rattle.rpki_attributes.specs.Attribute.Read.{attribute_at}
use Rattle.rpki_attributes.specs.Attrs.{SignedAttributes, most_octets}
use Rattle.rpki_attributes.specs.Attrs.{AttributesForm, SignedAttrsForm, KeptAttributes, AreKept}
use Rattle.rpki_attributes.specs.Attrs.Read.{attrs_at}
use Rattle.rpki_attributes.specs.Attrs.Made.{attribute_octets, attributes_of, InOrder, attrs_octets}
use Rattle.rpki_attributes.specs.Attrs.Made.{message_of}
use Rattle.rpki_attributes.proofs.Attributes.Exact.{attribute-part}
use Rattle.rpki_attributes.proofs.Lists.Exact.{attrs-part}
use Rattle.rpki_der.proofs.Form.Keyed.{differ}

-- ---- where no other types stand

without-others : (mode : Mode) (oid o v : List ℕ) → HasValues Refuse mode oid o v
    → HasValues Skip mode oid o v
without-others mode oid o v (inl h) = inl h
without-others mode oid o v (inr h) = absurd (never h.1)
  where
    never : Refuse ≡ Skip → ⊥
    never e = cc

attribute-skips : (mode : Mode) (o : List ℕ) (a : Attribute) → AttributeForm Refuse mode o a
    → AttributeForm Skip mode o a
attribute-skips mode o a h =
    let p = h.2 in
    let q = p.4 in (
      h.0,
      h.1,
      (
        p.0,
        p.1,
        p.2,
        p.3,
        (q.0, q.1, q.2, without-others mode a.oid q.0 a.values q.3, q.4),
      ),
    )

attributes-skip : (mode : Mode) (o : List ℕ) (x : SignedAttributes)
    → AttributesForm Refuse mode o x → AttributesForm Skip mode o x
attributes-skip mode o x h = (
  h.0,
  items-as (AttributeForm Refuse mode) (AttributeForm Skip mode) (attribute-skips mode) o h.0 h.1,
  h.2,
)

skips-too : (others : OtherTypes) (mode : Mode) (o : List ℕ) (x : SignedAttributes)
    → AttributesForm others mode o x → AttributesForm Skip mode o x
skips-too Refuse mode o x h = attributes-skip mode o x h
skips-too Skip mode o x h = h

pub attrs-skip : (mode : Mode) (o : List ℕ) (x : SignedAttributes)
    → SignedAttrsForm Refuse mode o x → SignedAttrsForm Skip mode o x
attrs-skip mode o x h = (h.0, h.1, attributes-skip mode x.contents x h.2)

-- what was read is kept
pub read-kept : (others : OtherTypes) (old : State) (x : SignedAttributes) (new : State)
    → IsBytes old.rest → Reads (λ (y : SignedAttributes). y) (attrs_at others) old (Ok x) new
    → AreKept (record { attributes = x; mode = old.mode })
read-kept others old x new bytes h =
    let r = reads-ok (λ (y : SignedAttributes). y) (attrs_at others) old x new h in
    let f = ((attrs-part others).exact old.mode).sound old.rest x new.rest bytes r.found in
    record { most = f.2.1; form = skips-too others old.mode x.contents x f.2.2 }

-- ---- what is written

pub attrs-written : (others : OtherTypes) (x : SignedAttributes)
    → length x.contents ≤ most_octets → AttributesForm others Der x.contents x
    → SignedAttrsForm others Der (attrs_octets x) x
attrs-written others x short form = (
  value-written (context 0) x.contents (tag-sound (context 0) refl) (omega (arith, short)),
  short,
  form,
)

pub kept-written : (k : KeptAttributes) → AreKept k → k.mode ≡ Der
    → SignedAttrsForm Skip Der (attrs_octets k.attributes) k.attributes
kept-written k h der =
    attrs-written Skip k.attributes h.most
    (subst (λ (m : Mode). AttributesForm Skip m k.attributes.contents k.attributes) der h.form)

pub attrs-unique : (others : OtherTypes) (octets : List ℕ) (x : SignedAttributes) → IsBytes octets
    → SignedAttrsForm others Der octets x → octets ≡ attrs_octets x
attrs-unique others octets x bytes h = value-unique octets (context 0) x.contents bytes h.0

pub message-written : (x : SignedAttributes) → length x.contents ≤ most_octets
    → Value Der (message_of x) SET x.contents
message-written x short =
    value-written SET x.contents (tag-sound SET refl) (omega (arith, short))

pub message-unique : (octets : List ℕ) (x : SignedAttributes) → IsBytes octets
    → Value Der octets SET x.contents → octets ≡ message_of x
message-unique octets x bytes h = value-unique octets SET x.contents bytes h

read-alike : (mode : Mode) (others : OtherTypes) (x : SignedAttributes) (rest : List ℕ)
    → SignedAttrsForm others Der (attrs_octets x) x
    → attrs_at others mode (attrs_octets x ++ rest) ≡ Some (x, rest)
read-alike Der others x rest h =
    ((attrs-part others).exact Der).complete (attrs_octets x) x rest tt h
read-alike Ber others x rest h =
    ((attrs-part others).exact Ber).complete (attrs_octets x) x rest tt
    ((attrs-part others).relaxed (attrs_octets x) x h)

pub read-again : (others : OtherTypes) (mode : Mode) (x : SignedAttributes) (rest : List ℕ)
    → SignedAttrsForm Refuse Der (attrs_octets x) x
    → attrs_at others mode (attrs_octets x ++ rest) ≡ Some (x, rest)
read-again Refuse mode x rest h = read-alike mode Refuse x rest h
read-again Skip mode x rest h =
    read-alike mode Skip x rest (attrs-skip Der (attrs_octets x) x h)

-- ---- one attribute of a known type

attribute-written : (oid value : List ℕ) → IsKnown oid → IsOid oid
    → length (attribute_octets oid value) < 2 ^ 32
    → AttributeForm Refuse Der (attribute_octets oid value)
    (record { oid = oid; values = value })
attribute-written oid value known valid short =
    let type : List ℕ = value_octets OBJECT_IDENTIFIER oid in
    let set : List ℕ = value_octets SET value in
    let all : length (type ++ set) < 2 ^ 32 = contents_small SEQUENCE (type ++ set) short in
    let each = length_parts type set all in (
      type ++ set,
      value-written SEQUENCE (type ++ set) (tag-sound SEQUENCE refl) all,
      (
        type,
        set,
        refl,
        (
          oid,
          value-written OBJECT_IDENTIFIER oid (tag-sound OBJECT_IDENTIFIER refl)
              (contents_small OBJECT_IDENTIFIER oid each.0),
          (refl, valid),
        ),
        (
          set,
          [],
          sym (append-nil set),
          inl (
            known,
            value-written SET value (tag-sound SET refl)
                (contents_small SET value each.1),
          ),
          refl,
        ),
      ),
    )

-- ---- how many have a type

abbrev tally : List ℕ → Attribute → ℕ
tally oid a = if bytes_eq a.oid oid then 1 else 0

abbrev Other : List ℕ → Attribute → Type 0
Other oid a = a.oid ≢ oid

-- one attribute before others that have n of the type
tally-there : (oid : List ℕ) (a : Attribute) (list : List Attribute) → bytes_eq a.oid oid ≡ true
    → sum_by (tally oid) (a ∷ list) ≡ 1 + sum_by (tally oid) list
tally-there oid a list e =
    let one : tally oid a ≡ 1 = rw e refl in
    sum_by-cons (tally oid) a list ∙ ap (λ (n : ℕ). n + sum_by (tally oid) list) one

tally-other : (oid : List ℕ) (a : Attribute) (list : List Attribute)
    → bytes_eq a.oid oid ≡ false → sum_by (tally oid) (a ∷ list) ≡ sum_by (tally oid) list
tally-other oid a list e =
    let none : tally oid a ≡ 0 = rw e refl in
    omega (arith, sum_by-cons (tally oid) a list, none)

none-left : (oid : List ℕ) (list : List Attribute) → sum_by (tally oid) list ≡ 0
    → All (Other oid) list
none-left oid [] h = All-nil (Other oid)
none-left oid (a ∷ list) h = of (bytes_eq a.oid oid) refl (λ g. none-left oid list g)
  where
    of : (t : Bool) → bytes_eq a.oid oid ≡ t
        → (sum_by (tally oid) list ≡ 0 → All (Other oid) list) → All (Other oid) (a ∷ list)
    of true e go = absurd (omega (arith, tally-there oid a list e, h))
    of false e go =
        All-cons (Other oid) a list (differ a.oid oid e) (go (sym (tally-other oid a list e) ∙ h))

-- where one has the type, and what has the type says x
once-by : {X : Type 0} (Say : Attribute → X → Type 0) (oid : List ℕ) (x : X)
    (list : List Attribute) → sum_by (tally oid) list ≡ 1
    → All (λ a. a.oid ≡ oid → Say a x) list → Once type_of Say list oid x
once-by Say oid x [] h all = absurd (omega (arith, h))
once-by {X} Say oid x (a ∷ list) h all =
    of (bytes_eq a.oid oid) refl
    (λ g. once-by Say oid x list g
    (All-tail (λ (b : Attribute). b.oid ≡ oid → Say b x) a list all))
  where
    of : (t : Bool) → bytes_eq a.oid oid ≡ t
        → (sum_by (tally oid) list ≡ 1 → Once type_of Say list oid x)
        → Once type_of Say (a ∷ list) oid x
    of true e go =
        let same : a.oid ≡ oid = (bytes_eq-Decides a.oid oid).0 e in (
          [],
          a,
          list,
          refl,
          same,
          All-nil (Other oid),
          none-left oid list (omega (arith, tally-there oid a list e, h)),
          All-head (λ (b : Attribute). b.oid ≡ oid → Say b x) a list all same,
        )
    of false e go =
        let later = go (sym (tally-other oid a list e) ∙ h) in (
          a ∷ later.0,
          later.1,
          later.2,
          ap (λ (l : List Attribute). a ∷ l) later.3,
          later.4,
          All-cons (Other oid) a later.0 (differ a.oid oid e) later.5,
          later.6,
          later.7,
        )

-- ---- attributes in any order

-- the attribute of these octets
abbrev attribute_of : List ℕ → Attribute
attribute_of o = unwrap_or (all_read (attribute_at Refuse) Der o) (record { oid = []; values = [] })

abbrev IsOfItself : List ℕ → Type 0
IsOfItself o = AttributeForm Refuse Der o (attribute_of o)

attribute-is : (o : List ℕ) (a : Attribute) → AttributeForm Refuse Der o a → attribute_of o ≡ a
attribute-is o a h =
    let found : attribute_at Refuse Der o ≡ Some (a, []) =
    subst (λ (t : List ℕ). attribute_at Refuse Der t ≡ Some (a, [])) (append-nil o)
    (((attribute-part Refuse).exact Der).complete o a [] tt h) in
    rw found refl

of-itself : (o : List ℕ) (a : Attribute) → AttributeForm Refuse Der o a → IsOfItself o
of-itself o a h = subst (AttributeForm Refuse Der o) (sym (attribute-is o a h)) h

joined-items : (parts : List (List ℕ)) → All IsOfItself parts
    → Items (AttributeForm Refuse Der) (concat parts) (map attribute_of parts)
joined-items [] h = refl
joined-items (o ∷ parts) h = (
  o,
  concat parts,
  refl,
  All-head IsOfItself o parts h,
  joined-items parts (All-tail IsOfItself o parts h),
)

length-joined : (parts : List (List ℕ)) → length (concat parts) ≡ sum_by length parts
length-joined [] = refl
length-joined (o ∷ parts) =
    length-append o (concat parts) ∙ ap (λ (n : ℕ). length o + n) (length-joined parts)
    ∙ sym (sum_by-cons length o parts)

pub length-sorted : (parts sorted : List (List ℕ)) → IsPermutation parts sorted
    → length (concat sorted) ≡ length (concat parts)
length-sorted parts sorted h =
    length-joined sorted ∙ sum_by-IsPermutation length parts sorted h ∙ sym (length-joined parts)

-- ---- what is made

octets-written : (s : List ℕ) → length s < 2 ^ 32
    → OctetString Der 32 (value_octets OCTET_STRING s) s
unfolding OctetString
octets-written s short = inl (value-written OCTET_STRING s (tag-sound OCTET_STRING refl) short)

oid-written : (oid : List ℕ) → IsOid oid → length oid < 2 ^ 32
    → ObjectIdentifier Der (value_octets OBJECT_IDENTIFIER oid) oid
oid-written oid valid short = (
  oid,
  value-written OBJECT_IDENTIFIER oid (tag-sound OBJECT_IDENTIFIER refl) short,
  (refl, valid),
)

value-small : (oid value : List ℕ) → length (attribute_octets oid value) < 2 ^ 32
    → length value < 2 ^ 32
value-small oid value short =
    let type : List ℕ = value_octets OBJECT_IDENTIFIER oid in
    let set : List ℕ = value_octets SET value in
    contents_small SET value
    (length_parts type set (contents_small SEQUENCE (type ++ set) short)).1

module _ (type digest contents : List ℕ) (time : Moment) (valid : IsOid type)
    (real : TimeForm Der (time_octets time) time) (short : length contents ≤ most_octets)
    (order : InOrder (attributes_of type digest time) contents) where
  abbrev first : List ℕ
  first = value_octets OBJECT_IDENTIFIER type

  abbrev second : List ℕ
  second = value_octets OCTET_STRING digest

  abbrev third : List ℕ
  third = time_octets time

  abbrev parts : List (List ℕ)
  parts = attributes_of type digest time

  abbrev pub said : SignedAttributes
  said = record {
    contents = contents;
    content_type = type;
    message_digest = digest;
    signing_time = time;
  }

  abbrev three : List Attribute
  three =
      record { oid = id_content_type; values = first }
      ∷ record { oid = id_message_digest; values = second }
      ∷ record { oid = id_signing_time; values = third }
      ∷ []

  joined-short : length (concat parts) ≤ most_octets
  joined-short =
      let same = length-sorted parts order.0 order.1 in
      let all = ap length order.3 in
      omega (arith, short, same, all)

  parts-short : (length (attribute_octets id_content_type first) < 2 ^ 32)
      × (length (attribute_octets id_message_digest second) < 2 ^ 32)
      × (length (attribute_octets id_signing_time third) < 2 ^ 32)
  parts-short =
      let a : List ℕ = attribute_octets id_content_type first in
      let b : List ℕ = attribute_octets id_message_digest second in
      let c : List ℕ = attribute_octets id_signing_time third in
      let most : length (a ++ (b ++ (c ++ []))) ≤ most_octets = joined-short in
      let ab = length-append a (b ++ (c ++ [])) in
      let bc = length-append b (c ++ []) in
      let cn = length-append c [] in (
        omega (arith, most, ab, bc, cn),
        omega (arith, most, ab, bc, cn),
        omega (arith, most, ab, bc, cn),
      )

  first-form : AttributeForm Refuse Der (attribute_octets id_content_type first)
      (record { oid = id_content_type; values = first })
  first-form = attribute-written id_content_type first (inl refl) (omega arith, omega arith)
      parts-short.0

  second-form : AttributeForm Refuse Der (attribute_octets id_message_digest second)
      (record { oid = id_message_digest; values = second })
  second-form = attribute-written id_message_digest second (inr (inl refl))
      (omega arith, omega arith) parts-short.1

  third-form : AttributeForm Refuse Der (attribute_octets id_signing_time third)
      (record { oid = id_signing_time; values = third })
  third-form = attribute-written id_signing_time third (inr (inr refl))
      (omega arith, omega arith) parts-short.2

  parts-form : All IsOfItself parts
  parts-form =
      let c : List ℕ = attribute_octets id_signing_time third in
      let b : List ℕ = attribute_octets id_message_digest second in
      All-cons IsOfItself _ (b ∷ c ∷ []) (of-itself _ _ first-form)
      (All-cons IsOfItself b (c ∷ []) (of-itself _ _ second-form)
      (All-cons IsOfItself c [] (of-itself _ _ third-form) (All-nil IsOfItself)))

  are-three : map attribute_of parts ≡ three
  are-three =
      rw (
        attribute-is _ _ first-form,
        attribute-is _ _ second-form,
        attribute-is _ _ third-form,
      ) refl

  abbrev list : List Attribute
  list = map attribute_of order.0

  permuted : IsPermutation three list
  permuted =
      subst (λ (l : List Attribute). IsPermutation l list) are-three
      (IsPermutation-map attribute_of parts order.0 order.1)

  all-three : (P : Attribute → Type 0) → P (record { oid = id_content_type; values = first })
      → P (record { oid = id_message_digest; values = second })
      → P (record { oid = id_signing_time; values = third }) → All P three
  all-three P p q r =
      let b : Attribute = record { oid = id_message_digest; values = second } in
      let c : Attribute = record { oid = id_signing_time; values = third } in
      All-cons P _ (b ∷ c ∷ []) p (All-cons P b (c ∷ []) q (All-cons P c [] r (All-nil P)))

  one-of : {X : Type 0} (Say : Attribute → X → Type 0) (oid : List ℕ) (x : X)
      → sum_by (tally oid) three ≡ 1 → All (λ a. a.oid ≡ oid → Say a x) three
      → Once type_of Say list oid x
  one-of Say oid x one all =
      once-by Say oid x list (sum_by-IsPermutation (tally oid) three list permuted ∙ one)
      (All-permutation (λ (a : Attribute). a.oid ≡ oid → Say a x) three list permuted all)

  pub made-form : AttributesForm Refuse Der contents said
  made-form = (
    list,
    subst (λ (o : List ℕ). Items (AttributeForm Refuse Der) o list) (sym order.3)
        (joined-items order.0 (All-permutation IsOfItself parts order.0 order.1 parts-form)),
    record {
      content_type = one-of (λ a y. ObjectIdentifier Der a.values y) id_content_type type refl
          (all-three (λ a. a.oid ≡ id_content_type → ObjectIdentifier Der a.values type)
          (λ e. oid-written type valid (contents_small OBJECT_IDENTIFIER type
          (value-small id_content_type first parts-short.0)))
          (λ e. absurd cc) (λ e. absurd cc));
      message_digest = one-of (λ a y. OctetString Der 32 a.values y) id_message_digest digest refl
          (all-three (λ a. a.oid ≡ id_message_digest → OctetString Der 32 a.values digest)
          (λ e. absurd cc)
          (λ e. octets-written digest (contents_small OCTET_STRING digest
          (value-small id_message_digest second parts-short.1)))
          (λ e. absurd cc));
      signing_time = one-of (λ a y. TimeForm Der a.values y) id_signing_time time refl
          (all-three (λ a. a.oid ≡ id_signing_time → TimeForm Der a.values time)
          (λ e. absurd cc) (λ e. absurd cc) (λ e. real));
    },
  )

-- what is made is kept, and written in its form
pub made-kept : (x y : SignedAttributes) → x ≡ y → length y.contents ≤ most_octets
    → AttributesForm Refuse Der y.contents y → AreKept (record { attributes = x; mode = Der })
made-kept x y same short form =
    subst (λ (z : SignedAttributes). AreKept (record { attributes = z; mode = Der })) (sym same)
    (record { most = short; form = attributes-skip Der y.contents y form })

pub made-written : (x y : SignedAttributes) → x ≡ y → length y.contents ≤ most_octets
    → AttributesForm Refuse Der y.contents y → SignedAttrsForm Refuse Der (attrs_octets x) x
made-written x y same short form =
    subst (λ (z : SignedAttributes). SignedAttrsForm Refuse Der (attrs_octets z) z) (sym same)
    (attrs-written Refuse y short form)
