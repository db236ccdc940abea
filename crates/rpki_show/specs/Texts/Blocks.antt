-- The lines of the numbers that a content names.
use Rattle.std.specs.Prelude.{ℕ, List, ◌++◌, codes, map}
use Rattle.std.specs.List.{flat_map}
use Rattle.rpki_resources.specs.As.{as_block, as_block_text}
use Rattle.rpki_resources.specs.Ip.{ip_block}
use Rattle.rpki_resources.specs.Text.{block_text}
use Rattle.rpki_resources.specs.declared.asn.AsBlock.{AsBlock}
use Rattle.rpki_resources.specs.declared.block.Block.{Block}
use Rattle.rpki_resources.specs.declared.family.AddressFamily.TheVariants.{Ipv4, Ipv6}
use Rattle.rpki_resources.specs.declared.ip.IpBlock.{IpBlock}

-- the line of a block of AS numbers
abbrev pub as_line : AsBlock → List ℕ
as_line b = codes "as " ++ (as_block_text b ++ codes "\n")

-- the line of a block of IPv4 addresses
abbrev pub v4_line : IpBlock → List ℕ
v4_line b = codes "v4 " ++ (block_text Ipv4 b ++ codes "\n")

-- the line of a block of IPv6 addresses
abbrev pub v6_line : IpBlock → List ℕ
v6_line b = codes "v6 " ++ (block_text Ipv6 b ++ codes "\n")

-- a line for each block of AS numbers
abbrev pub as_lines : List (Block ℕ) → List ℕ
as_lines set = flat_map as_line (map as_block set)

-- a line for each block of IPv4 addresses
abbrev pub v4_lines : List (Block ℕ) → List ℕ
v4_lines set = flat_map v4_line (map ip_block set)

-- a line for each block of IPv6 addresses
abbrev pub v6_lines : List (Block ℕ) → List ℕ
v6_lines set = flat_map v6_line (map ip_block set)
