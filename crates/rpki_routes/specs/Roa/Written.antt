-- The octets that a ROA content is written as in DER (RFC 9582, section 4): the version is left
-- out, IPv4 comes first, a family without addresses is left out, and the bits that are not used
-- are zero.
use Rattle.std.specs.Prelude.{ℕ, List, [], ◌∷◌, ◌++◌}
use Rattle.std.specs.List.{flat_map}
use Rattle.rpki_der.specs.Tags.{SEQUENCE, OCTET_STRING}
use Rattle.rpki_der.specs.Write.Parts.{optional_octets}
use Rattle.rpki_der.specs.Write.Written.{value_octets, number_octets}
use Rattle.rpki_resources.specs.declared.family.AddressFamily.{AddressFamily}
use Rattle.rpki_resources.specs.declared.family.AddressFamily.TheVariants.{Ipv4, Ipv6}
use Rattle.rpki_resources.specs.Family.Form.{afi}
use Rattle.rpki_resources.specs.Ip.Written.{end_octets}
use Rattle.rpki_routes.specs.Roa.{Address, Roa}

-- the prefix, and the maximum length where there is one
abbrev pub address_contents : Address → List ℕ
address_contents a =
    end_octets a.prefix.addr a.prefix.len ++ optional_octets number_octets a.max_length

-- an address
abbrev pub address_octets : Address → List ℕ
address_octets a = value_octets SEQUENCE (address_contents a)

-- addresses, one after the other
abbrev pub list_octets : List Address → List ℕ
list_octets list = flat_map address_octets list

-- a family and its addresses
abbrev pub family_contents : AddressFamily → List Address → List ℕ
family_contents family list =
    value_octets OCTET_STRING (afi family) ++ value_octets SEQUENCE (list_octets list)

-- a family with addresses, and nothing for one without
abbrev pub family_octets : AddressFamily → List Address → List ℕ
family_octets family [] = []
family_octets family (a ∷ list) = value_octets SEQUENCE (family_contents family (a ∷ list))

-- both families
abbrev pub families_octets : Roa → List ℕ
families_octets r = family_octets Ipv4 r.v4 ++ family_octets Ipv6 r.v6

-- the AS number and the families
abbrev pub roa_contents : Roa → List ℕ
roa_contents r = number_octets r.as_id ++ value_octets SEQUENCE (families_octets r)

-- the content as it is written
abbrev pub roa_octets : Roa → List ℕ
roa_octets r = value_octets SEQUENCE (roa_contents r)
