-- Reading signed attributes, as functions on lists.
use Rattle.std.specs.Prelude.{ℕ, List, length, nat_le, Option, None, Some}
use Rattle.std.specs.Prelude.{if◌then◌else◌}
use Rattle.rpki_der.specs.declared.mode.Mode.{Mode}
use Rattle.rpki_der.specs.Form.Keyed.{said_once}
use Rattle.rpki_der.specs.Form.Made.{understood, with_octets, all_read}
use Rattle.rpki_der.specs.Form.Parts.{items_at, context_at}
use Rattle.rpki_der.specs.Numbers.{MAX_DEPTH}
use Rattle.rpki_der.specs.Read.Parse.{Parser, ◌>>=◌, oid_at, octets_at}
use Rattle.rpki_der.specs.Tags.{SEQUENCE}
use Rattle.rpki_basics.specs.Time.Read.{time_at}
use Rattle.rpki_attributes.specs.declared.attribute.OtherTypes.{OtherTypes}
use Rattle.rpki_attributes.specs.Attribute.{Attribute, type_of, id_content_type}
use Rattle.rpki_attributes.specs.Attribute.{id_message_digest, id_signing_time}
use Rattle.rpki_attributes.specs.Attribute.Read.{attribute_at}
use Rattle.rpki_attributes.specs.Attrs.{SignedAttributes, most_octets}

-- what p reads in the values of the only attribute of this type, all of them
abbrev pub said_by : {X : Type 0} → List ℕ → Parser X → Mode → List Attribute → Option X
said_by oid p mode list = said_once type_of (λ a. all_read p mode a.values) oid list

-- what attributes with these octets say, each of the three once
unfoldable pub fields_of : List ℕ → Mode → List Attribute → Option SignedAttributes
fields_of octets mode list = do
  type ← said_by id_content_type oid_at mode list
  digest ← said_by id_message_digest (octets_at MAX_DEPTH) mode list
  time ← said_by id_signing_time time_at mode list
  Some (record {
    contents = octets;
    content_type = type;
    message_digest = digest;
    signing_time = time;
  })

-- what signed attributes say, where they are not too many octets
unfoldable pub says_of : Mode → List Attribute × List ℕ → Option SignedAttributes
says_of mode read =
    if nat_le (length read.1) most_octets then fields_of read.1 mode read.0 else None

-- the attributes and their octets
abbrev pub list_at : OtherTypes → Parser (List Attribute × List ℕ)
list_at others = with_octets (items_at SEQUENCE (attribute_at others))

-- what attributes say, without the header that they stand under
abbrev pub contents_at : OtherTypes → Parser SignedAttributes
contents_at others = understood says_of (list_at others)

-- signed attributes
abbrev pub attrs_at : OtherTypes → Parser SignedAttributes
attrs_at others = context_at 0 (contents_at others)
