-- Reading sets of AS numbers as functions on lists.
use Rattle.std.specs.Prelude.{ℕ, List, None, Some, nat_le, if◌then◌else◌}
use Rattle.rpki_der.specs.Tags.{SEQUENCE}
use Rattle.rpki_der.specs.Read.Parse.{Parser, ◌>>=◌, u32_at, all_at}
use Rattle.rpki_der.specs.Form.Parts.{sequence_at}
use Rattle.rpki_der.specs.Form.Made.{choice_at, made}
use Rattle.rpki_resources.specs.declared.block.Block.{Block}
use Rattle.rpki_resources.specs.As.Form.{only}
use Rattle.rpki_resources.specs.Joined.{joined}

-- the two ends of a range, the lower one not above the upper one
unfoldable pub as_ends_at : Parser (Block ℕ)
as_ends_at mode bytes = do
  lower ← u32_at mode bytes
  upper ← u32_at mode lower.1
  if nat_le lower.0 upper.0 then Some (record { min = lower.0; max = upper.0 }, upper.1) else None

-- a range, or one number
abbrev pub as_item_at : Parser (Block ℕ)
as_item_at = choice_at SEQUENCE (sequence_at as_ends_at) (made only u32_at)

-- reads numbers and ranges of AS numbers to the end: their blocks, sorted and joined
abbrev pub as_items_at : Parser (List (Block ℕ))
as_items_at = made joined (all_at as_item_at)

-- a set of AS numbers: a SEQUENCE OF ranges and numbers (RFC 3779, section 3.2.3.4)
abbrev pub as_blocks_at : Parser (List (Block ℕ))
as_blocks_at = sequence_at as_items_at
