-- What is written of an address family is in its form, and families are readings.
use Rattle.std.proofs.Common.{◌≡◌, ℕ, ◌<◌, ◌^◌, List, ◌++◌, length, Some, arith}
use Rattle.rpki_der.specs.declared.mode.Mode.{Mode}
use Rattle.rpki_der.specs.declared.mode.Mode.TheVariants.{Der, Ber}
use Rattle.rpki_der.specs.Tags.{OCTET_STRING}
use Rattle.rpki_der.specs.Read.Exact.{IsReading}
use Rattle.rpki_der.specs.Write.Written.{value_octets}
use Rattle.rpki_der.proofs.Reading.Unique.{octets-one}
use Rattle.rpki_der.proofs.Writing.Values.{octets-written}
use Rattle.rpki_resources.specs.declared.family.AddressFamily.{AddressFamily}
use Rattle.rpki_resources.specs.declared.family.AddressFamily.TheVariants.{Ipv4, Ipv6}
use Rattle.rpki_resources.specs.Family.Form.{afi, FamilyForm}
use Rattle.rpki_resources.specs.Family.Read.{family_at}
use Rattle.rpki_resources.proofs.Families.Exact.{family-part}
use Rattle.rpki_der.proofs.Reading.Unique.{part-reading}

pub family-reading : IsReading family_at FamilyForm
family-reading = part-reading family-part (λ mode o family h. octets-one 32 mode o (afi family) h)

afi-short : (family : AddressFamily) → length (afi family) < 2 ^ 32
afi-short Ipv4 = omega arith
afi-short Ipv6 = omega arith

pub family-written : (family : AddressFamily)
    → FamilyForm Der (value_octets OCTET_STRING (afi family)) family
family-written family = octets-written 32 (afi family) (omega arith) (afi-short family)

family-in : (mode : Mode) (family : AddressFamily)
    → FamilyForm mode (value_octets OCTET_STRING (afi family)) family
family-in Der family = family-written family
family-in Ber family =
    family-reading.relaxed (value_octets OCTET_STRING (afi family)) family (family-written family)

pub family-read : (mode : Mode) (family : AddressFamily) (rest : List ℕ)
    → family_at mode (value_octets OCTET_STRING (afi family) ++ rest) ≡ Some (family, rest)
family-read mode family rest =
    (family-reading.exact mode).complete (value_octets OCTET_STRING (afi family)) family rest tt
    (family-in mode family)
