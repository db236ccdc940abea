-- Reading a signed attribute, as functions on lists.
use Rattle.std.specs.Prelude.{ℕ, List, [], Bool, ◌||◌, None, Some, if◌then◌else◌}
use Rattle.std.specs.Str.{bytes_eq}
use Rattle.rpki_der.specs.Form.Parts.{sequence_at}
use Rattle.rpki_der.specs.Read.Parse.{Parser, ◌>>=◌, primitive, oid_at, skip_all_at}
use Rattle.rpki_der.specs.Tags.{SET}
use Rattle.rpki_attributes.specs.declared.attribute.OtherTypes.{OtherTypes}
use Rattle.rpki_attributes.specs.declared.attribute.OtherTypes.TheVariants.{Refuse, Skip}
use Rattle.rpki_attributes.specs.Attribute.{Attribute, id_content_type, id_message_digest}
use Rattle.rpki_attributes.specs.Attribute.{id_signing_time}

-- whether the type is one of the three that are known
abbrev pub is_known : List ℕ → Bool
is_known oid =
    bytes_eq oid id_content_type
    || (bytes_eq oid id_message_digest || bytes_eq oid id_signing_time)

-- past the values of an attribute of another type, where those are skipped
unfoldable pub others_at : OtherTypes → Parser (List ℕ)
others_at Refuse mode bytes = None
others_at Skip mode bytes = skip_all_at mode bytes >>= λ u. Some ([], u.1)

-- what follows this type
unfoldable pub values_at : OtherTypes → List ℕ → Parser (List ℕ)
values_at others oid mode bytes =
    if is_known oid then primitive SET Some mode bytes else others_at others mode bytes

-- the type of an attribute and its values
unfoldable pub attribute_fields_at : OtherTypes → Parser Attribute
attribute_fields_at others mode bytes = do
  oid ← oid_at mode bytes
  values ← values_at others oid.0 mode oid.1
  Some (record { oid = oid.0; values = values.0 }, values.1)

-- an attribute
abbrev pub attribute_at : OtherTypes → Parser Attribute
attribute_at others = sequence_at (attribute_fields_at others)
