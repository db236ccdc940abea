-- Reading sets of addresses and prefixes as functions on lists.
use Rattle.std.specs.Prelude.{ℕ, List, None, Some, nat_le, if◌then◌else◌}
use Rattle.rpki_der.specs.Tags.{SEQUENCE}
use Rattle.rpki_der.specs.Read.Parse.{Parser, ◌>>=◌, bits_at, all_at, tested}
use Rattle.rpki_der.specs.Form.Parts.{sequence_at}
use Rattle.rpki_der.specs.Form.Made.{choice_at, made}
use Rattle.rpki_resources.specs.declared.block.Block.{Block}
use Rattle.rpki_resources.specs.Ip.Form.{bit_count, lowest, highest, beginning, network}
use Rattle.rpki_resources.specs.Joined.{joined}
use Rattle.rpki_resources.specs.Prefix.{Network}

-- the bits of an end of a range, or of a prefix: a BIT STRING of at most `most` bits
unfoldable pub ip_address_at : ℕ → Parser (List ℕ × ℕ)
ip_address_at most = tested (λ bits. nat_le (bit_count bits) most) bits_at

-- the two ends of a range, the lower one not above the upper one
unfoldable pub ip_ends_at : ℕ → Parser (Block ℕ)
ip_ends_at most mode bytes = do
  lower ← made lowest (ip_address_at most) mode bytes
  upper ← made highest (ip_address_at most) mode lower.1
  if nat_le lower.0 upper.0 then Some (record { min = lower.0; max = upper.0 }, upper.1) else None

-- a range, or a prefix
abbrev pub ip_item_at : ℕ → Parser (Block ℕ)
ip_item_at most = choice_at SEQUENCE (sequence_at (ip_ends_at most))
    (made beginning (ip_address_at most))

-- reads prefixes and ranges of addresses to the end: their blocks, sorted and joined
unfoldable pub ip_items_at : ℕ → Parser (List (Block ℕ))
ip_items_at most = made joined (all_at (ip_item_at most))

-- a set of addresses of a family, whose addresses have `most` bits: a SEQUENCE OF ranges and
-- prefixes, where an end or a prefix has at most `most` bits (RFC 3779, section 2.2.3.6)
abbrev pub ip_blocks_at : ℕ → Parser (List (Block ℕ))
ip_blocks_at most = sequence_at (ip_items_at most)

-- a prefix
abbrev pub prefix_at : ℕ → Parser Network
prefix_at most = made network (ip_address_at most)
