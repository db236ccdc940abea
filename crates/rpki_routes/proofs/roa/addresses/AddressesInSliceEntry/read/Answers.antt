use Rattle.rpki_der.specs.Tags.{SEQUENCE}
use Rattle.rpki_lists.proofs.Known.{value-around}
use Rattle.rpki_routes.specs.Roa.Read.{address_fields_at}
use Rattle.rpki_routes.proofs.Origins.Known.{prefix-in-front, max-in-front, address-known}
use Rattle.rpki_routes.proofs.roa.addresses.AddressesInSliceEntry.read.Goals as goal

pub known_sequence-fields-requires : goal.known_sequence-fields-requires
known_sequence-fields-requires c = value-around SEQUENCE address_fields_at _ c.requires

pub known_prefix-prefix-requires : goal.known_prefix-prefix-requires
known_prefix-prefix-requires c = prefix-in-front _ c.requires _ _ c.known_sequence-fields.ensures

pub known_opt_u8-max_length-requires : goal.known_opt_u8-max_length-requires
known_opt_u8-max_length-requires c =
    max-in-front _ c.requires _ _ c.known_sequence-fields.ensures _ _ c.known_prefix-prefix.ensures

pub returns : goal.returns
returns c =
    rw c.new.ensures (address-known _ c.requires _ _ c.known_sequence-fields.ensures _ _ _ _
    c.known_prefix-prefix.ensures c.known_opt_u8-max_length.ensures)
