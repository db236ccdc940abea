-- Signed attributes that are made, and the octets of signed attributes.
use Rattle.std.specs.Prelude.{◌≡◌, ℕ, List, [], ◌∷◌, ◌++◌}
use Rattle.std.specs.Cmp.Lexicographic.{slice_cmp}
use Rattle.std.specs.List.{concat}
use Rattle.std.specs.List.Sorted.{IsPermutation, IsSorted}
use Rattle.std.specs.Ordering.{nat_cmp}
use Rattle.rpki_der.specs.declared.mode.Mode.TheVariants.{Der}
use Rattle.rpki_der.specs.Tags.{OBJECT_IDENTIFIER, OCTET_STRING, SEQUENCE, SET, context}
use Rattle.rpki_der.specs.Write.Written.{value_octets}
use Rattle.rpki_basics.specs.Moment.{Moment}
use Rattle.rpki_basics.specs.Time.Form.{time_octets}
use Rattle.rpki_attributes.specs.Attribute.{id_content_type, id_message_digest, id_signing_time}
use Rattle.rpki_attributes.specs.declared.attribute.OtherTypes.TheVariants.{Refuse}
use Rattle.rpki_attributes.specs.Attrs.{SignedAttributes, SignedAttrsForm}

-- Attribute: SEQUENCE { attrType, attrValues SET } with one value (RFC 5652, section 5.3)
abbrev pub attribute_octets : List ℕ → List ℕ → List ℕ
attribute_octets type value =
    value_octets SEQUENCE (value_octets OBJECT_IDENTIFIER type ++ value_octets SET value)

-- the three attributes with these values (RFC 6488, section 2.1.6.4)
abbrev pub attributes_of : List ℕ → List ℕ → Moment → List (List ℕ)
attributes_of type digest time =
    attribute_octets id_content_type (value_octets OBJECT_IDENTIFIER type)
    ∷ attribute_octets id_message_digest (value_octets OCTET_STRING digest)
    ∷ attribute_octets id_signing_time (time_octets time)
    ∷ []

-- The octets are these parts in ascending order (X.690, section 11.6).
abbrev pub InOrder : List (List ℕ) → List ℕ → Type 0
InOrder parts octets =
    (sorted : List (List ℕ)) × IsPermutation parts sorted × IsSorted (slice_cmp nat_cmp) sorted
    × (octets ≡ concat sorted)

-- signedAttrs [0]: the octets under their header (RFC 5652, section 5.3)
abbrev pub attrs_octets : SignedAttributes → List ℕ
attrs_octets x = value_octets (context 0) x.contents

-- The message that is signed: 31 hexadecimal, which is the tag of a SET, the length in DER, and the
-- octets as they were read or made. It is the message of RFC 5652, section 5.4, where these are the
-- DER of the SET, in order. That they are not encoded anew is this project's own rule.
abbrev pub message_of : SignedAttributes → List ℕ
message_of x = value_octets SET x.contents

-- Attributes that are made of this type, this digest and this time: their octets stand in ascending
-- order, and are in the form of signed attributes (RFC 6488, section 2.1.6.4).
pub record AreMade (type digest : List ℕ) (time : Moment) (x : SignedAttributes) : Type 0 where
  pub content_type : x.content_type ≡ type
  pub message_digest : x.message_digest ≡ digest
  pub signing_time : x.signing_time ≡ time
  pub order : InOrder (attributes_of type digest time) x.contents
  pub form : SignedAttrsForm Refuse Der (attrs_octets x) x
