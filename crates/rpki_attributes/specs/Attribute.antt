-- One signed attribute.
pub mod Read
use Rattle.std.specs.Prelude.{◌≡◌, ℕ, List, [], ◌∷◌, ◌⊎◌}
use Rattle.rpki_der.specs.declared.mode.Mode.{Mode}
use Rattle.rpki_der.specs.Form.Parts.{Sequence}
use Rattle.rpki_der.specs.Grammar.{Value, ObjectIdentifier, ListOf, Skipped}
use Rattle.rpki_der.specs.Numbers.{MAX_DEPTH}
use Rattle.rpki_der.specs.Tags.{SET}
use Rattle.rpki_attributes.specs.declared.attribute.OtherTypes.{OtherTypes}
use Rattle.rpki_attributes.specs.declared.attribute.OtherTypes.TheVariants.{Skip}

-- An attribute: the contents of its type, and the octets of its values, without the header of
-- their SET.
pub record Attribute : Type 0 where
  pub oid : List ℕ
  pub values : List ℕ

-- the type of an attribute
abbrev pub type_of : Attribute → List ℕ
type_of a = a.oid

-- pkcs-9, which is 1.2.840.113549.1.9, and an arc (RFC 5652, section 11)
abbrev pub pkcs_9 : ℕ → List ℕ
pkcs_9 arc = 0x2A ∷ 0x86 ∷ 0x48 ∷ 0x86 ∷ 0xF7 ∷ 0x0D ∷ 0x01 ∷ 0x09 ∷ arc ∷ []

-- the type of the attribute that names the type of the content (RFC 5652, section 11.1)
abbrev pub id_content_type : List ℕ
id_content_type = pkcs_9 3

-- the type of the attribute that has the digest of the content (RFC 5652, section 11.2)
abbrev pub id_message_digest : List ℕ
id_message_digest = pkcs_9 4

-- the type of the attribute that says when the content was signed (RFC 5652, section 11.3)
abbrev pub id_signing_time : List ℕ
id_signing_time = pkcs_9 5

-- The type is one of these three, which are known (RFC 6488, section 2.1.6.4, as RFC 9589 updates
-- it).
abbrev pub IsKnown : List ℕ → Type 0
IsKnown oid = (oid ≡ id_content_type) ⊎ ((oid ≡ id_message_digest) ⊎ (oid ≡ id_signing_time))

-- What follows the type of an attribute. Of a known type it is the SET of its values. Of another
-- type, where those are skipped, it is any skipped values, of which none is kept. That these need
-- be no SET, and may be none, is this project's own rule: RFC 5652, section 5.3, has attrValues as
-- a SET.
abbrev pub HasValues : OtherTypes → Mode → List ℕ → List ℕ → List ℕ → Type 0
HasValues others mode oid octets values =
    (IsKnown oid × Value mode octets SET values)
    ⊎ ((IsKnown oid → ⊥) × (others ≡ Skip) × ListOf (Skipped mode MAX_DEPTH) octets × (values ≡ []))

-- Attribute: SEQUENCE { attrType OBJECT IDENTIFIER, attrValues SET OF AttributeValue } (RFC 5652,
-- section 5.3), but for the values of other types, of which HasValues speaks
abbrev pub AttributeForm : OtherTypes → Mode → List ℕ → Attribute → Type 0
AttributeForm others mode octets a = Sequence mode (
    (λ o. ObjectIdentifier mode o a.oid)
    ∷ (λ o. HasValues others mode a.oid o a.values)
    ∷ []) octets
