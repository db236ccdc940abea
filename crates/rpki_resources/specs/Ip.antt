-- Blocks of addresses.
pub mod Form
pub mod Read
pub mod Written
use Rattle.std.specs.Prelude.{ℕ, Option, None, Some}
use Rattle.rpki_resources.specs.declared.block.Block.{Block}
use Rattle.rpki_resources.specs.declared.ip.IpBlock.{IpBlock}
use Rattle.rpki_resources.specs.declared.ip.IpBlock.TheVariants.{Prefix, Range}
use Rattle.rpki_resources.specs.Prefix.{last_of, prefix_len}

-- the name of a block that is a prefix of this length, or of one that is no prefix
abbrev pub named_by : Option ℕ → Block ℕ → IpBlock
named_by (Some len) b = Prefix (record { addr = b.min; len = len })
named_by None b = Range b.min b.max

-- how a block is named: as a prefix, where its addresses are those of one
abbrev pub ip_block : Block ℕ → IpBlock
ip_block b = named_by (prefix_len b.min b.max) b

-- the addresses of which a name speaks
abbrev pub ip_range : IpBlock → Block ℕ
ip_range (Prefix p) = record { min = p.addr; max = last_of p.addr p.len }
ip_range (Range a b) = record { min = a; max = b }
