-- ROA contents that are built. The sections are those of RFC 9582.
use Rattle.std.specs.Prelude.{◌≡◌, ℕ, ◌≤◌, List, [], ◌∷◌, ◌++◌, Option, IfSome, map}
use Rattle.std.specs.declared.net.ip_addr.IpAddr.{IpAddr}
use Rattle.std.specs.declared.net.ip_addr.IpAddr.TheVariants.{V4, V6}
use Rattle.rpki_basics.specs.declared.build.BuildFault.{BuildFault}
use Rattle.rpki_basics.specs.declared.build.BuildFault.TheVariants as fault
use Rattle.rpki_faults.specs.Checks.{Check, ◌unless◌}
use Rattle.rpki_resources.specs.declared.block.Block.{Block}
use Rattle.rpki_resources.specs.declared.family.AddressFamily.{AddressFamily}
use Rattle.rpki_resources.specs.declared.family.AddressFamily.TheVariants.{Ipv4, Ipv6}
use Rattle.rpki_resources.specs.declared.resources.Claim.{Claim}
use Rattle.rpki_resources.specs.Blocks.{IsSetOf}
use Rattle.rpki_resources.specs.Claim.{claim_of}
use Rattle.rpki_resources.specs.Family.{max_bits}
use Rattle.rpki_resources.specs.Prefix.{first_of}
use Rattle.rpki_routes.specs.Roa.{Address, Roa, IsMaxLength, addr_of}
use Rattle.rpki_routes.specs.Roa.Checks.{range_of}

-- the prefix of this length that an address is in, with this maximum length
abbrev pub address_of : IpAddr → ℕ → Option ℕ → Address
address_of addr len max = record {
  prefix = record { addr = first_of (addr_of addr) len; len = len };
  max_length = max;
}

-- the same ROA with one more address, which comes last in the family of this address
abbrev pub with_address : IpAddr → Roa → Address → Roa
with_address (V4 addr) r a = record r { v4 = r.v4 ++ a ∷ [] }
with_address (V6 addr) r a = record r { v6 = r.v6 ++ a ∷ [] }

-- what is asked of an address of the family, in this order: its prefix is no longer than an address
-- of the family, and its maximum length is between that of the prefix and that of an address (4.3)
abbrev pub address_checks : AddressFamily → Address → List (Check BuildFault)
address_checks family a =
    (fault.PrefixTooLong unless (a.prefix.len ≤ max_bits family))
    ∷ (fault.BadMaxLength unless IfSome a.max_length (IsMaxLength family a.prefix.len))
    ∷ []

-- what is asked of addresses of the family, one after the other
abbrev pub list_checks : AddressFamily → List Address → List (Check BuildFault)
list_checks family [] = []
list_checks family (a ∷ others) = address_checks family a ++ list_checks family others

-- what is asked of a content: of its addresses of IPv4, and then of those of IPv6
abbrev pub roa_checks : Roa → List (Check BuildFault)
roa_checks r = list_checks Ipv4 r.v4 ++ list_checks Ipv6 r.v6

-- the addresses of each prefix
abbrev pub ranges_of : List Address → List (Block ℕ)
ranges_of list = map (λ (a : Address). range_of a.prefix) list

-- What has the addresses of these prefixes, and no others, is claimed: missing, where there is no
-- prefix.
pub record IsClaimOf (list : List Address) (claim : Claim (List (Block ℕ))) : Type 0 where
  pub set : List (Block ℕ)
  pub addresses : IsSetOf (ranges_of list) set
  pub claimed : claim ≡ claim_of set
