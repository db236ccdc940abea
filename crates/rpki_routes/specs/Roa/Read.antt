-- Reading a ROA content, as functions on lists.
use Rattle.std.specs.Prelude.{ℕ, List, Option, None, Some, Bool, true, ◌&&◌, nat_le}
use Rattle.std.specs.Prelude.{if◌then◌else◌}
use Rattle.rpki_der.specs.Tags.{INTEGER, context}
use Rattle.rpki_der.specs.Read.Parse.{Parser, ◌>>=◌, u8_at, u32_at}
use Rattle.rpki_der.specs.Read.Parse.{tested, optional}
use Rattle.rpki_der.specs.Form.Parts.{sequence_at}
use Rattle.rpki_der.specs.Form.Made.{made}
use Rattle.rpki_resources.specs.declared.family.AddressFamily.{AddressFamily}
use Rattle.rpki_resources.specs.Family.{max_bits}
use Rattle.rpki_resources.specs.Families.Read.{families_at}
use Rattle.rpki_resources.specs.Ip.Read.{prefix_at}
use Rattle.rpki_lists.specs.Entries.{list_at}
use Rattle.rpki_lists.specs.Rules.{admits}
use Rattle.rpki_lists.specs.Version.{version_at}
use Rattle.rpki_routes.specs.declared.roa.addresses.OneFamily.{OneFamily}
use Rattle.rpki_routes.specs.Roa.{Address, Roa}
use Rattle.rpki_routes.specs.Roa.Form.{lists_of}

-- a prefix of either family, and a number that may be there
unfoldable pub address_fields_at : Parser Address
address_fields_at mode bytes = do
  prefix ← prefix_at 128 mode bytes
  max ← optional INTEGER u8_at mode prefix.1
  Some (record { prefix = prefix.0; max_length = max.0 }, max.1)

-- an address of either family
abbrev pub address_at : Parser Address
address_at = sequence_at address_fields_at

-- whether the maximum length is between these
abbrev pub is_max : ℕ → ℕ → Option ℕ → Bool
is_max len most None = true
is_max len most (Some max) = nat_le len max && nat_le max most

-- whether the address is one of the family
unfoldable pub is_of : AddressFamily → Address → Bool
is_of family a =
    nat_le a.prefix.len (max_bits family) && is_max a.prefix.len (max_bits family) a.max_length

-- the rule goes on where the address is one of its family
abbrev pub after_address : OneFamily → Address → Option OneFamily
after_address rule a = if is_of rule.family a then Some rule else None

-- addresses of the family
abbrev pub addresses_at : AddressFamily → Parser (List Address)
addresses_at family = tested (admits after_address (record { family = family }))
    (list_at address_at)

-- the version, the AS number, and the addresses of each family
unfoldable pub fields_at : Parser Roa
fields_at mode bytes = do
  version ← optional (context 0) version_at mode bytes
  number ← u32_at mode version.1
  lists ← made lists_of (families_at addresses_at) mode number.1
  Some (record { as_id = number.0; v4 = lists.0.0; v6 = lists.0.1 }, lists.1)
