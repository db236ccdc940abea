-- The parts of an origin, as they are printed.
use Rattle.std.specs.Prelude.{ℕ, List, ◌==◌, Option, None, Some, if◌then◌else◌}
use Rattle.rpki_resources.specs.Text.{prefix_text}
use Rattle.rpki_resources.specs.declared.family.AddressFamily.{AddressFamily}
use Rattle.rpki_resources.specs.declared.family.AddressFamily.TheVariants.{Ipv4, Ipv6}
use Rattle.rpki_relying_party.specs.declared.payload.Origin.{Origin}

-- the family with this number in the registry of address families (RFC 3779, section 2.2.3.3),
-- which is 1 or 2
abbrev pub family_of : ℕ → AddressFamily
family_of number = if number == 1 then Ipv4 else Ipv6

-- its prefix, as `192.0.2.0/24`
abbrev pub prefix_of : Origin → List ℕ
prefix_of o = prefix_text (family_of o.family) (record { addr = o.addr; len = o.len })

-- the maximum length, where it is not that of the prefix
abbrev pub longer_than : ℕ → ℕ → Option ℕ
longer_than len max_len = if max_len == len then None else Some max_len
