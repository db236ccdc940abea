-- The octets of an address family.
use Rattle.std.specs.Prelude.{ℕ, List, [], ◌∷◌}
use Rattle.rpki_der.specs.declared.mode.Mode.{Mode}
use Rattle.rpki_der.specs.Numbers.{MAX_DEPTH}
use Rattle.rpki_der.specs.Grammar.{OctetString}
use Rattle.rpki_resources.specs.declared.family.AddressFamily.{AddressFamily}
use Rattle.rpki_resources.specs.declared.family.AddressFamily.TheVariants.{Ipv4, Ipv6}

-- the address family identifier (RFC 3779, 2.2.3.3): 1 for IPv4 and 2 for IPv6, in two octets
abbrev pub afi : AddressFamily → List ℕ
afi Ipv4 = 0 ∷ 1 ∷ []
afi Ipv6 = 0 ∷ 2 ∷ []

-- An OCTET STRING of the identifier of the family (`afi`). RFC 3779 allows a third octet, the
-- subsequent address family identifier; that it is not used in certificates, RFC 6487, section
-- 4.8.10, asks.
abbrev pub FamilyForm : Mode → List ℕ → AddressFamily → Type 0
FamilyForm mode octets family = OctetString mode MAX_DEPTH octets (afi family)
