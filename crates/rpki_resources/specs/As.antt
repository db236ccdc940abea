-- AS numbers, and blocks of them.
pub mod Form
pub mod Read
pub mod Written
use Rattle.std.specs.Prelude.{ℕ, ◌<◌, ◌^◌, List, ◌++◌, ◌==◌, if◌then◌else◌, codes, decimal}
use Rattle.rpki_resources.specs.declared.block.Block.{Block}
use Rattle.rpki_resources.specs.declared.asn.AsBlock.{AsBlock}
use Rattle.rpki_resources.specs.declared.asn.AsBlock.TheVariants.{Id, Range}

-- a number of four octets (RFC 6793, section 3)
abbrev pub IsAsn : ℕ → Type 0
IsAsn n = n < 2 ^ 32

-- The block by its name: a block of one number is that number, any other one a range.
abbrev pub as_block : Block ℕ → AsBlock
as_block b = if b.min == b.max then Id b.min else Range b.min b.max

-- the numbers of which a name speaks
abbrev pub as_range : AsBlock → Block ℕ
as_range (Id n) = record { min = n; max = n }
as_range (Range a b) = record { min = a; max = b }

-- AS15562: the number in decimal (asplain, RFC 5396, section 2) after the letters, which are this
-- project's own
abbrev pub asn_text : ℕ → List ℕ
asn_text n = codes "AS" ++ decimal n

-- AS10, or AS10-AS20, which is this project's own
abbrev pub as_block_text : AsBlock → List ℕ
as_block_text (Id n) = asn_text n
as_block_text (Range a b) = asn_text a ++ (codes "-" ++ asn_text b)
