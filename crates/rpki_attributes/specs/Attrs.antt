-- Signed attributes.
pub mod Made
pub mod Read
use Rattle.std.specs.Prelude.{ℕ, ◌≤◌, List, length}
use Rattle.rpki_der.specs.declared.mode.Mode.{Mode}
use Rattle.rpki_der.specs.Form.Keyed.{Once}
use Rattle.rpki_der.specs.Grammar.{Value, ObjectIdentifier, OctetString, Items}
use Rattle.rpki_der.specs.Numbers.{MAX_DEPTH}
use Rattle.rpki_der.specs.Tags.{context}
use Rattle.rpki_basics.specs.Moment.{Moment}
use Rattle.rpki_basics.specs.Time.Form.{TimeForm}
use Rattle.rpki_attributes.specs.declared.attribute.OtherTypes.{OtherTypes}
use Rattle.rpki_attributes.specs.declared.attribute.OtherTypes.TheVariants.{Skip}
use Rattle.rpki_attributes.specs.Attribute.{Attribute, type_of, AttributeForm, id_content_type}
use Rattle.rpki_attributes.specs.Attribute.{id_message_digest, id_signing_time}

-- What signed attributes say, and their octets, without the header that they stand under. These
-- octets are what is signed, after the header of a SET.
pub record SignedAttributes : Type 0 where
  pub contents : List ℕ
  pub content_type : List ℕ
  pub message_digest : List ℕ
  pub signing_time : Moment

-- how many octets signed attributes have at most, which is this project's own rule
abbrev pub most_octets : ℕ
most_octets = 65535

-- One attribute has this type, and no second one, and its values are one value in G, which means x.
abbrev pub HasOne : {X : Type 0} → List Attribute → List ℕ → (List ℕ → X → Type 0) → X → Type 0
HasOne list oid G x = Once type_of (λ a y. G a.values y) list oid x

-- Each of the three stands once, and each field is what its attribute says: ContentType is an
-- OBJECT IDENTIFIER, MessageDigest an OCTET STRING, SigningTime a Time (RFC 5652, sections 11.1 to
-- 11.3). Each has to be there in signed objects (RFC 6488, section 2.1.6.4, as RFC 9589 updates
-- it). That the signing time has to be there too where other types are skipped is this project's
-- own rule, since RFC 5652, section 11.3, leaves it open.
pub record AreAttributes (mode : Mode) (list : List Attribute) (x : SignedAttributes) : Type 0 where
  pub content_type : HasOne list id_content_type (ObjectIdentifier mode) x.content_type
  pub message_digest : HasOne list id_message_digest (OctetString mode MAX_DEPTH) x.message_digest
  pub signing_time : HasOne list id_signing_time (TimeForm mode) x.signing_time

-- SET OF Attribute without its header (RFC 5652, section 5.3). Where others is Skip, attributes of
-- other types may stand among the three. That they are read in BER too, and in any order in DER
-- too, against RFC 5652, section 5.3, and X.690, section 11.6, is this project's own rule.
abbrev pub AttributesForm : OtherTypes → Mode → List ℕ → SignedAttributes → Type 0
AttributesForm others mode octets x =
    (list : List Attribute) × Items (AttributeForm others mode) octets list
    × AreAttributes mode list x

-- signedAttrs [0] IMPLICIT SET OF Attribute (RFC 5652, section 5.3), of at most 65535 octets
abbrev pub SignedAttrsForm : OtherTypes → Mode → List ℕ → SignedAttributes → Type 0
SignedAttrsForm others mode octets x =
    Value mode octets (context 0) x.contents × (length x.contents ≤ most_octets)
    × AttributesForm others mode x.contents x

-- signed attributes, and the mode that their octets were read in
pub record KeptAttributes : Type 0 where
  pub attributes : SignedAttributes
  pub mode : Mode

-- The octets are at most 65535, and are attributes that say what is kept, by the rules of the mode.
-- Attributes of other types may stand among the three.
pub record AreKept (k : KeptAttributes) : Type 0 where
  pub most : length k.attributes.contents ≤ most_octets
  pub form : AttributesForm Skip k.mode k.attributes.contents k.attributes
