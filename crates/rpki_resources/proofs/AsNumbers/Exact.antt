-- Sets of AS numbers are read exactly.
use Rattle.std.proofs.Common.{ℕ, List, inl, inr, refl, arith}
use Rattle.std.specs.Prelude.{nat_le}
use Rattle.std.proofs.lemmas.Bool.{leb-true, le-leb}
use Rattle.rpki_der.specs.declared.mode.Mode.{Mode}
use Rattle.rpki_der.specs.Tags.{SEQUENCE, INTEGER}
use Rattle.rpki_der.specs.Read.Parse.{u32_at, unsigned_of}
use Rattle.rpki_der.specs.Form.Made.{made}
use Rattle.rpki_der.proofs.Reading.Skips.{Takes}
use Rattle.rpki_der.proofs.Reading.UpToEnd.{takes-in, takes-primitive}
use Rattle.rpki_der.proofs.Form.Taking.{takes-made, takes-choice}
use Rattle.rpki_der.specs.Form.Law.{nothing, is, or, IsPart}
use Rattle.rpki_der.specs.Form.Parts.{sequence_at}
use Rattle.rpki_der.proofs.Form.Fields.{field, guard, done, within-if}
use Rattle.rpki_der.proofs.Form.Words.{make, choice}
use Rattle.rpki_der.proofs.Form.Kinds.{u32-part}
use Rattle.rpki_resources.specs.declared.block.Block.{Block}
use Rattle.rpki_resources.specs.Blocks.{IsBlock}
use Rattle.rpki_resources.specs.As.Form.{AsRange, AsIdOrRange, AsForm, only}
use Rattle.rpki_resources.specs.As.Read.{as_ends_at, as_item_at, as_blocks_at}
use Rattle.rpki_resources.proofs.Sets.Listed.{set-part}

-- a range
range : IsPart (is SEQUENCE) nothing (sequence_at as_ends_at) AsRange
unfolding as_ends_at
range = within-if SEQUENCE (
    field (λ b. b.min) u32-part (λ lower.
    field (λ b. b.max) u32-part (λ upper.
    guard (nat_le lower upper) (λ b k. le-leb _ _ (rw (k.0.1, k.1) k.0.0)) (λ le.
    done (record { min = lower; max = upper }) ((leb-true _ _ le, refl), refl)
    (λ b k i. record { min = k.0.1 i; max = k.1 i }))) refl) refl)

-- a range, or one number
pub as-item : IsPart (or (is SEQUENCE) (is INTEGER)) nothing as_item_at AsIdOrRange
as-item = choice SEQUENCE range (make only u32-part) refl

-- the lower end of a block is not above its upper end
pub item-block : (mode : Mode) (o : List ℕ) (b : Block ℕ) → AsIdOrRange mode o b
    → IsBlock (λ n. n) b
item-block mode o b (inl h) = h.1
item-block mode o b (inr h) = rw h.2 (omega arith)

-- a set
pub as-part : IsPart (is SEQUENCE) nothing as_blocks_at AsForm
as-part = set-part item-block as-item

-- it takes an octet at least
pub as-takes : (mode : Mode) → Takes (as_item_at mode)
as-takes mode = takes-choice SEQUENCE (sequence_at as_ends_at) (made only u32_at) mode
    (takes-in SEQUENCE as_ends_at mode)
    (takes-made only u32_at mode (takes-primitive INTEGER (unsigned_of 4) mode))
