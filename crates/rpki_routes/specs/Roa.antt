-- The content of a Route Origin Authorization (ROA). The sections are those of RFC 9582.
pub mod Built
pub mod Checks
pub mod Form
pub mod Lent
pub mod Read
pub mod Signed
pub mod Written
use Rattle.std.specs.Prelude.{◌≡◌, ℕ, ◌-◌, ◌%◌, ◌^◌, ◌<◌, ◌≤◌, List, ◌++◌, All, Option, IfSome, map}
use Rattle.std.specs.Prelude.{◌*◌, ◌/◌}
use Rattle.std.specs.declared.net.ip_addr.IpAddr.{IpAddr}
use Rattle.std.specs.declared.net.ip_addr.IpAddr.TheVariants.{V4, V6}
use Rattle.std.specs.Net.Addr.{ipv4_bits, ipv6_bits, IsIpv4OfBits, IsIpv6OfBits}
use Rattle.rpki_resources.specs.declared.family.AddressFamily.{AddressFamily}
use Rattle.rpki_resources.specs.declared.family.AddressFamily.TheVariants.{Ipv4, Ipv6}
use Rattle.rpki_resources.specs.declared.text.MaxLenPrefix.{MaxLenPrefix}
use Rattle.rpki_resources.specs.As.{IsAsn}
use Rattle.rpki_routes.specs.declared.roa.address.RouteOrigin.{RouteOrigin}
use Rattle.rpki_resources.specs.Family.{max_bits}
use Rattle.rpki_resources.specs.Prefix.{Network}

-- a prefix, and the length up to which longer ones are authorized too (4.3)
pub record Address : Type 0 where
  pub prefix : Network
  pub max_length : Option ℕ

-- what a content says: an AS number, and the prefixes of each family that it may originate
pub record Roa : Type 0 where
  pub as_id : ℕ
  pub v4 : List Address
  pub v6 : List Address

-- a prefix of the family: it is no longer than an address of the family has bits, and its address,
-- held in 128 bits, has zeros after its length
pub record IsPrefixOf (family : AddressFamily) (p : Network) : Type 0 where
  pub within : p.len ≤ max_bits family
  pub address : p.addr < 2 ^ 128
  pub aligned : p.addr % 2 ^ (128 - p.len) ≡ 0

-- The maximum length is between the length of the prefix and that of an address of the family
-- (4.3).
abbrev pub IsMaxLength : AddressFamily → ℕ → ℕ → Type 0
IsMaxLength family len max = (len ≤ max) × (max ≤ max_bits family)

-- an address of the family
pub record IsAddress (family : AddressFamily) (a : Address) : Type 0 where
  pub prefix : IsPrefixOf family a.prefix
  pub longest : IfSome a.max_length (IsMaxLength family a.prefix.len)

-- what a content may say
pub record IsRoa (r : Roa) : Type 0 where
  pub number : IsAsn r.as_id
  pub v4 : All (IsAddress Ipv4) r.v4
  pub v6 : All (IsAddress Ipv6) r.v6

-- an address with its family
pub record FamilyAddress : Type 0 where
  pub family : AddressFamily
  pub address : Address

-- an address of this family
abbrev pub of_family : AddressFamily → Address → FamilyAddress
of_family family a = record { family = family; address = a }

-- all addresses, those of IPv4 first
abbrev pub addresses : Roa → List FamilyAddress
addresses r = map (of_family Ipv4) r.v4 ++ map (of_family Ipv6) r.v6

-- the prefix of the address and its maximum length, as they are printed
abbrev pub max_len_prefix : FamilyAddress → MaxLenPrefix
max_len_prefix a = record {
  family = a.family;
  prefix = a.address.prefix;
  max_len = a.address.max_length;
}

-- an address in 128 bits: one of IPv4 in the upper 32
abbrev pub addr_of : IpAddr → ℕ
addr_of (V4 addr) = ipv4_bits addr * 2 ^ 96
addr_of (V6 addr) = ipv6_bits addr

-- The address of the family, held in 128 bits, is this address of the standard library.
abbrev pub IsShown : AddressFamily → ℕ → IpAddr → Type 0
IsShown Ipv4 addr (V4 shown) = IsIpv4OfBits shown (addr / 2 ^ 96)
IsShown Ipv4 addr (V6 shown) = ⊥
IsShown Ipv6 addr (V4 shown) = ⊥
IsShown Ipv6 addr (V6 shown) = IsIpv6OfBits shown addr

-- the origin: the prefix of the address, with its maximum length, and the AS that may originate it
abbrev pub origin_of : ℕ → FamilyAddress → RouteOrigin
origin_of asn a = record { prefix = max_len_prefix a; asn = asn }
